-- The bodies of answers: buckets and URLs.
use Rattle.std.specs.Prelude.{ℕ, List, ◌++◌, codes}

abbrev pub bucket_text : List ℕ
bucket_text =
    codes "{\"accountId\":\"a1b2c3d4e5f6\",\"bucketId\":\"000000000000000000000001\","
    ++ codes "\"bucketInfo\":{},\"bucketName\":\"photos-1\",\"bucketType\":\"allPrivate\","
    ++ codes "\"corsRules\":[],\"defaultServerSideEncryption\":{\"isClientAuthorizedToRead\":false,"
    ++ codes "\"value\":null},\"fileLockConfiguration\":{\"isClientAuthorizedToRead\":true,"
    ++ codes "\"value\":{\"defaultRetention\":{\"mode\":null,\"period\":null},"
    ++ codes "\"isFileLockEnabled\":false}},\"lifecycleRules\":[],\"options\":[],\"revision\":1}"

abbrev pub conflict_text : List ℕ
conflict_text = codes "{\"code\":\"conflict\",\"message\":\"revision differs: 2\",\"status\":409}"

abbrev pub taken_text : List ℕ
taken_text = codes "{\"code\":\"duplicate_bucket_name\",\"message\":\"bucket name is taken\",\"status\":400}"

-- a public bucket with all that a bucket may have
abbrev pub whole_text : List ℕ
whole_text =
    codes "{\"buckets\":[{\"accountId\":\"a1b2c3d4e5f6\",\"bucketId\":\"000000000000000000000001\","
    ++ codes "\"bucketInfo\":{\"a\":\"1\",\"b\":\"2\"},\"bucketName\":\"photos-1\","
    ++ codes "\"bucketType\":\"allPublic\",\"corsRules\":[],"
    ++ codes "\"defaultServerSideEncryption\":{\"isClientAuthorizedToRead\":false,\"value\":null},"
    ++ codes "\"fileLockConfiguration\":{\"isClientAuthorizedToRead\":true,"
    ++ codes "\"value\":{\"defaultRetention\":{\"mode\":\"governance\",\"period\":{\"duration\":10,"
    ++ codes "\"unit\":\"days\"}},\"isFileLockEnabled\":true}},"
    ++ codes "\"lifecycleRules\":[{\"daysFromHidingToDeleting\":1,"
    ++ codes "\"daysFromStartingToCancelingUnfinishedLargeFiles\":null,"
    ++ codes "\"daysFromUploadingToHiding\":2,\"fileNamePrefix\":\"logs/\"}],\"options\":[],"
    ++ codes "\"revision\":7}]}"

-- to a key that may not read retentions
abbrev pub unread_text : List ℕ
unread_text =
    codes "{\"buckets\":[{\"accountId\":\"a1b2c3d4e5f6\",\"bucketId\":\"000000000000000000000001\","
    ++ codes "\"bucketInfo\":{},\"bucketName\":\"photos-1\",\"bucketType\":\"allPrivate\","
    ++ codes "\"corsRules\":[],\"defaultServerSideEncryption\":{\"isClientAuthorizedToRead\":false,"
    ++ codes "\"value\":null},\"fileLockConfiguration\":{\"isClientAuthorizedToRead\":false,"
    ++ codes "\"value\":null},\"lifecycleRules\":[],\"options\":[],\"revision\":1}]}"

abbrev pub upload_url_text : List ℕ
upload_url_text =
    codes "{\"authorizationToken\":\"3_00000001_0000000000000002_0000000000000001_0000000000000002\","
    ++ codes "\"bucketId\":\"000000000000000000000001\","
    ++ codes "\"uploadUrl\":\"http://127.0.0.1:8080/b2api/v3/b2_upload_file/000000000000000000000001\"}"

abbrev pub part_url_text : List ℕ
part_url_text =
    codes "{\"authorizationToken\":\"3_00000001_0000000000000002_0000000000000001_0000000000000002\","
    ++ codes "\"fileId\":\"4_z00000001_f0000000000000004\","
    ++ codes "\"uploadUrl\":\"http://127.0.0.1:8080/b2api/v3/b2_upload_part/4_z00000001_f0000000000000004\"}"

abbrev pub download_token_text : List ℕ
download_token_text =
    codes "{\"authorizationToken\":\"3_00000001_0000000000000002_0000000000000001_0000000000000002\","
    ++ codes "\"bucketId\":\"000000000000000000000001\",\"fileNamePrefix\":\"a\"}"
