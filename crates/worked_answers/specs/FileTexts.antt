-- The bodies of answers: files and parts.
use Rattle.std.specs.Prelude.{ℕ, List, ◌++◌, codes}

abbrev pub upload_text : List ℕ
upload_text =
    codes "{\"accountId\":\"a1b2c3d4e5f6\",\"action\":\"upload\","
    ++ codes "\"bucketId\":\"000000000000000000000001\",\"contentLength\":3,\"contentMd5\":null,"
    ++ codes "\"contentSha1\":\"a9993e364706816aba3e25717850c26c9cd0d89d\","
    ++ codes "\"contentType\":\"text/plain\",\"fileId\":\"4_z00000001_f0000000000000001\","
    ++ codes "\"fileInfo\":{},\"fileName\":\"a.txt\","
    ++ codes "\"fileRetention\":{\"isClientAuthorizedToRead\":true,\"value\":{\"mode\":null,"
    ++ codes "\"retainUntilTimestamp\":null}},\"legalHold\":{\"isClientAuthorizedToRead\":true,"
    ++ codes "\"value\":\"off\"},\"serverSideEncryption\":{\"algorithm\":null,\"mode\":null},"
    ++ codes "\"uploadTimestamp\":2000}"

abbrev pub unverified_text : List ℕ
unverified_text =
    codes "{\"accountId\":\"a1b2c3d4e5f6\",\"action\":\"upload\","
    ++ codes "\"bucketId\":\"000000000000000000000001\",\"contentLength\":3,\"contentMd5\":null,"
    ++ codes "\"contentSha1\":\"unverified:a9993e364706816aba3e25717850c26c9cd0d89d\","
    ++ codes "\"contentType\":\"text/plain\",\"fileId\":\"4_z00000001_f0000000000000001\","
    ++ codes "\"fileInfo\":{},\"fileName\":\"a.txt\","
    ++ codes "\"fileRetention\":{\"isClientAuthorizedToRead\":true,\"value\":{\"mode\":null,"
    ++ codes "\"retainUntilTimestamp\":null}},\"legalHold\":{\"isClientAuthorizedToRead\":true,"
    ++ codes "\"value\":\"off\"},\"serverSideEncryption\":{\"algorithm\":null,\"mode\":null},"
    ++ codes "\"uploadTimestamp\":2000}"

abbrev pub bad_digest_text : List ℕ
bad_digest_text = codes "{\"code\":\"bad_request\",\"message\":\"content digest differs\",\"status\":400}"

-- to a key that may not read retentions and holds
abbrev pub unread_text : List ℕ
unread_text =
    codes "{\"accountId\":\"a1b2c3d4e5f6\",\"action\":\"upload\","
    ++ codes "\"bucketId\":\"000000000000000000000001\",\"contentLength\":0,\"contentMd5\":null,"
    ++ codes "\"contentSha1\":\"0000000000000000000000000000000000000000\","
    ++ codes "\"contentType\":\"text/plain\",\"fileId\":\"4_z00000001_f0000000000000001\","
    ++ codes "\"fileInfo\":{},\"fileName\":\"logs/a\","
    ++ codes "\"fileRetention\":{\"isClientAuthorizedToRead\":false,\"value\":null},"
    ++ codes "\"legalHold\":{\"isClientAuthorizedToRead\":false,\"value\":null},"
    ++ codes "\"serverSideEncryption\":{\"algorithm\":null,\"mode\":null},\"uploadTimestamp\":1}"

abbrev pub kept_text : List ℕ
kept_text =
    codes "{\"accountId\":\"a1b2c3d4e5f6\",\"action\":\"upload\","
    ++ codes "\"bucketId\":\"000000000000000000000001\",\"contentLength\":0,\"contentMd5\":null,"
    ++ codes "\"contentSha1\":\"0000000000000000000000000000000000000000\","
    ++ codes "\"contentType\":\"text/plain\",\"fileId\":\"4_z00000001_f0000000000000001\","
    ++ codes "\"fileInfo\":{},\"fileName\":\"a\",\"fileRetention\":{\"isClientAuthorizedToRead\":true,"
    ++ codes "\"value\":{\"mode\":\"compliance\",\"retainUntilTimestamp\":9000}},"
    ++ codes "\"legalHold\":{\"isClientAuthorizedToRead\":true,\"value\":\"on\"},"
    ++ codes "\"serverSideEncryption\":{\"algorithm\":null,\"mode\":null},\"uploadTimestamp\":1000}"

abbrev pub start_text : List ℕ
start_text =
    codes "{\"accountId\":\"a1b2c3d4e5f6\",\"action\":\"start\","
    ++ codes "\"bucketId\":\"000000000000000000000001\",\"contentLength\":0,\"contentMd5\":null,"
    ++ codes "\"contentSha1\":\"none\",\"contentType\":\"image/png\","
    ++ codes "\"fileId\":\"4_z00000001_f0000000000000001\",\"fileInfo\":{\"a\":\"1\"},"
    ++ codes "\"fileName\":\"l.png\",\"fileRetention\":{\"isClientAuthorizedToRead\":true,"
    ++ codes "\"value\":{\"mode\":null,\"retainUntilTimestamp\":null}},"
    ++ codes "\"legalHold\":{\"isClientAuthorizedToRead\":true,\"value\":\"off\"},"
    ++ codes "\"serverSideEncryption\":{\"algorithm\":null,\"mode\":null},\"uploadTimestamp\":3000}"

abbrev pub part_text : List ℕ
part_text =
    codes "{\"contentLength\":3,\"contentMd5\":null,"
    ++ codes "\"contentSha1\":\"unverified:a9993e364706816aba3e25717850c26c9cd0d89d\","
    ++ codes "\"fileId\":\"4_z00000001_f0000000000000001\",\"partNumber\":2,"
    ++ codes "\"serverSideEncryption\":{\"algorithm\":null,\"mode\":null},\"uploadTimestamp\":2000}"

abbrev pub joined_text : List ℕ
joined_text =
    codes "{\"accountId\":\"a1b2c3d4e5f6\",\"action\":\"upload\","
    ++ codes "\"bucketId\":\"000000000000000000000001\",\"contentLength\":30,\"contentMd5\":null,"
    ++ codes "\"contentSha1\":\"none\",\"contentType\":\"text/plain\","
    ++ codes "\"fileId\":\"4_z00000001_f0000000000000001\",\"fileInfo\":{},\"fileName\":\"l\","
    ++ codes "\"fileRetention\":{\"isClientAuthorizedToRead\":true,\"value\":{\"mode\":null,"
    ++ codes "\"retainUntilTimestamp\":null}},\"legalHold\":{\"isClientAuthorizedToRead\":true,"
    ++ codes "\"value\":\"off\"},\"serverSideEncryption\":{\"algorithm\":null,\"mode\":null},"
    ++ codes "\"uploadTimestamp\":1000}"

abbrev pub gap_text : List ℕ
gap_text = codes "{\"code\":\"bad_request\",\"message\":\"missing part: 2\",\"status\":400}"

abbrev pub cancel_text : List ℕ
cancel_text =
    codes "{\"accountId\":\"a1b2c3d4e5f6\",\"bucketId\":\"000000000000000000000001\","
    ++ codes "\"fileId\":\"4_z00000001_f0000000000000001\",\"fileName\":\"l\"}"

abbrev pub hide_text : List ℕ
hide_text =
    codes "{\"accountId\":\"a1b2c3d4e5f6\",\"action\":\"hide\","
    ++ codes "\"bucketId\":\"000000000000000000000001\",\"contentLength\":0,\"contentMd5\":null,"
    ++ codes "\"contentSha1\":null,\"contentType\":\"application/x-bz-hide-marker\","
    ++ codes "\"fileId\":\"4_z00000001_f0000000000000005\",\"fileInfo\":{},\"fileName\":\"a.txt\","
    ++ codes "\"fileRetention\":{\"isClientAuthorizedToRead\":true,\"value\":{\"mode\":null,"
    ++ codes "\"retainUntilTimestamp\":null}},\"legalHold\":{\"isClientAuthorizedToRead\":true,"
    ++ codes "\"value\":\"off\"},\"serverSideEncryption\":{\"algorithm\":null,\"mode\":null},"
    ++ codes "\"uploadTimestamp\":1000}"

abbrev pub deletion_text : List ℕ
deletion_text = codes "{\"fileId\":\"4_z00000001_f0000000000000001\",\"fileName\":\"a\"}"

abbrev pub hold_text : List ℕ
hold_text = codes "{\"fileId\":\"4_z00000001_f0000000000000001\",\"fileName\":\"a\",\"legalHold\":\"on\"}"

abbrev pub retention_text : List ℕ
retention_text =
    codes "{\"fileId\":\"4_z00000001_f0000000000000001\",\"fileName\":\"a\","
    ++ codes "\"fileRetention\":{\"mode\":\"governance\",\"retainUntilTimestamp\":9001}}"

abbrev pub no_retention_text : List ℕ
no_retention_text =
    codes "{\"fileId\":\"4_z00000001_f0000000000000001\",\"fileName\":\"a\","
    ++ codes "\"fileRetention\":{\"mode\":null,\"retainUntilTimestamp\":null}}"
