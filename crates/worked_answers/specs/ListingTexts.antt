-- The bodies of answers: listings.
use Rattle.std.specs.Prelude.{ℕ, List, ◌++◌, codes}

-- a folder is next
abbrev pub names_text : List ℕ
names_text =
    codes "{\"files\":[{\"accountId\":\"a1b2c3d4e5f6\",\"action\":\"upload\","
    ++ codes "\"bucketId\":\"000000000000000000000001\",\"contentLength\":0,\"contentMd5\":null,"
    ++ codes "\"contentSha1\":\"0000000000000000000000000000000000000000\","
    ++ codes "\"contentType\":\"text/plain\",\"fileId\":\"4_z00000001_f0000000000000003\","
    ++ codes "\"fileInfo\":{},\"fileName\":\"a.txt\","
    ++ codes "\"fileRetention\":{\"isClientAuthorizedToRead\":true,\"value\":{\"mode\":null,"
    ++ codes "\"retainUntilTimestamp\":null}},\"legalHold\":{\"isClientAuthorizedToRead\":true,"
    ++ codes "\"value\":\"off\"},\"serverSideEncryption\":{\"algorithm\":null,\"mode\":null},"
    ++ codes "\"uploadTimestamp\":3}],\"nextFileName\":\"d/\"}"

-- a folder is shown
abbrev pub folder_text : List ℕ
folder_text =
    codes "{\"files\":[{\"accountId\":\"a1b2c3d4e5f6\",\"action\":\"folder\","
    ++ codes "\"bucketId\":\"000000000000000000000001\",\"contentLength\":0,\"contentMd5\":null,"
    ++ codes "\"contentSha1\":null,\"contentType\":null,\"fileId\":null,\"fileInfo\":{},"
    ++ codes "\"fileName\":\"d/\",\"fileRetention\":{\"isClientAuthorizedToRead\":false,"
    ++ codes "\"value\":null},\"legalHold\":{\"isClientAuthorizedToRead\":false,\"value\":null},"
    ++ codes "\"serverSideEncryption\":{\"algorithm\":null,\"mode\":null},\"uploadTimestamp\":0}],"
    ++ codes "\"nextFileName\":\"s\"}"

-- the next is a version
abbrev pub versions_text : List ℕ
versions_text =
    codes "{\"files\":[{\"accountId\":\"a1b2c3d4e5f6\",\"action\":\"start\","
    ++ codes "\"bucketId\":\"000000000000000000000001\",\"contentLength\":0,\"contentMd5\":null,"
    ++ codes "\"contentSha1\":\"none\",\"contentType\":\"text/plain\","
    ++ codes "\"fileId\":\"4_z00000001_f0000000000000007\",\"fileInfo\":{},\"fileName\":\"s\","
    ++ codes "\"fileRetention\":{\"isClientAuthorizedToRead\":true,\"value\":{\"mode\":null,"
    ++ codes "\"retainUntilTimestamp\":null}},\"legalHold\":{\"isClientAuthorizedToRead\":true,"
    ++ codes "\"value\":\"off\"},\"serverSideEncryption\":{\"algorithm\":null,\"mode\":null},"
    ++ codes "\"uploadTimestamp\":7}],\"nextFileId\":\"4_z00000001_f0000000000000006\","
    ++ codes "\"nextFileName\":\"s\"}"

-- the next is a folder
abbrev pub folder_next_text : List ℕ
folder_next_text =
    codes "{\"files\":[{\"accountId\":\"a1b2c3d4e5f6\",\"action\":\"upload\","
    ++ codes "\"bucketId\":\"000000000000000000000001\",\"contentLength\":0,\"contentMd5\":null,"
    ++ codes "\"contentSha1\":\"0000000000000000000000000000000000000000\","
    ++ codes "\"contentType\":\"text/plain\",\"fileId\":\"4_z00000001_f0000000000000003\","
    ++ codes "\"fileInfo\":{},\"fileName\":\"a.txt\","
    ++ codes "\"fileRetention\":{\"isClientAuthorizedToRead\":true,\"value\":{\"mode\":null,"
    ++ codes "\"retainUntilTimestamp\":null}},\"legalHold\":{\"isClientAuthorizedToRead\":true,"
    ++ codes "\"value\":\"off\"},\"serverSideEncryption\":{\"algorithm\":null,\"mode\":null},"
    ++ codes "\"uploadTimestamp\":3}],\"nextFileId\":null,\"nextFileName\":\"d/\"}"

-- none is next
abbrev pub last_text : List ℕ
last_text =
    codes "{\"files\":[{\"accountId\":\"a1b2c3d4e5f6\",\"action\":\"upload\","
    ++ codes "\"bucketId\":\"000000000000000000000001\",\"contentLength\":0,\"contentMd5\":null,"
    ++ codes "\"contentSha1\":\"0000000000000000000000000000000000000000\","
    ++ codes "\"contentType\":\"text/plain\",\"fileId\":\"4_z00000001_f0000000000000001\","
    ++ codes "\"fileInfo\":{},\"fileName\":\"z\",\"fileRetention\":{\"isClientAuthorizedToRead\":true,"
    ++ codes "\"value\":{\"mode\":null,\"retainUntilTimestamp\":null}},"
    ++ codes "\"legalHold\":{\"isClientAuthorizedToRead\":true,\"value\":\"off\"},"
    ++ codes "\"serverSideEncryption\":{\"algorithm\":null,\"mode\":null},\"uploadTimestamp\":1}],"
    ++ codes "\"nextFileId\":null,\"nextFileName\":null}"

-- a marker is shown
abbrev pub marker_text : List ℕ
marker_text =
    codes "{\"files\":[{\"accountId\":\"a1b2c3d4e5f6\",\"action\":\"hide\","
    ++ codes "\"bucketId\":\"000000000000000000000001\",\"contentLength\":0,\"contentMd5\":null,"
    ++ codes "\"contentSha1\":null,\"contentType\":\"application/x-bz-hide-marker\","
    ++ codes "\"fileId\":\"4_z00000001_f0000000000000005\",\"fileInfo\":{},\"fileName\":\"h\","
    ++ codes "\"fileRetention\":{\"isClientAuthorizedToRead\":true,\"value\":{\"mode\":null,"
    ++ codes "\"retainUntilTimestamp\":null}},\"legalHold\":{\"isClientAuthorizedToRead\":true,"
    ++ codes "\"value\":\"off\"},\"serverSideEncryption\":{\"algorithm\":null,\"mode\":null},"
    ++ codes "\"uploadTimestamp\":5}],\"nextFileId\":\"4_z00000001_f0000000000000004\","
    ++ codes "\"nextFileName\":\"h\"}"

abbrev pub starts_text : List ℕ
starts_text =
    codes "{\"files\":[{\"accountId\":\"a1b2c3d4e5f6\",\"action\":\"start\","
    ++ codes "\"bucketId\":\"000000000000000000000001\",\"contentLength\":0,\"contentMd5\":null,"
    ++ codes "\"contentSha1\":\"none\",\"contentType\":\"text/plain\","
    ++ codes "\"fileId\":\"4_z00000001_f0000000000000007\",\"fileInfo\":{},\"fileName\":\"s\","
    ++ codes "\"fileRetention\":{\"isClientAuthorizedToRead\":true,\"value\":{\"mode\":null,"
    ++ codes "\"retainUntilTimestamp\":null}},\"legalHold\":{\"isClientAuthorizedToRead\":true,"
    ++ codes "\"value\":\"off\"},\"serverSideEncryption\":{\"algorithm\":null,\"mode\":null},"
    ++ codes "\"uploadTimestamp\":7}],\"nextFileId\":null}"

abbrev pub parts_text : List ℕ
parts_text =
    codes "{\"nextPartNumber\":3,\"parts\":[{\"contentLength\":10,\"contentMd5\":null,"
    ++ codes "\"contentSha1\":\"0000000000000000000000000000000000000000\","
    ++ codes "\"fileId\":\"4_z00000001_f0000000000000001\",\"partNumber\":1,"
    ++ codes "\"serverSideEncryption\":{\"algorithm\":null,\"mode\":null},\"uploadTimestamp\":1500},"
    ++ codes "{\"contentLength\":10,\"contentMd5\":null,"
    ++ codes "\"contentSha1\":\"0000000000000000000000000000000000000000\","
    ++ codes "\"fileId\":\"4_z00000001_f0000000000000001\",\"partNumber\":2,"
    ++ codes "\"serverSideEncryption\":{\"algorithm\":null,\"mode\":null},\"uploadTimestamp\":1500}]}"
