-- The bodies of answers: accounts and keys.
use Rattle.std.specs.Prelude.{ℕ, List, ◌++◌, codes}

abbrev pub account_text : List ℕ
account_text =
    codes "{\"accountId\":\"a1b2c3d4e5f6\","
    ++ codes "\"apiInfo\":{\"storageApi\":{\"absoluteMinimumPartSize\":10,"
    ++ codes "\"apiUrl\":\"http://127.0.0.1:8080\",\"bucketId\":null,\"bucketName\":null,"
    ++ codes "\"capabilities\":[\"listKeys\",\"writeKeys\",\"deleteKeys\",\"listAllBucketNames\","
    ++ codes "\"listBuckets\",\"readBuckets\",\"writeBuckets\",\"deleteBuckets\","
    ++ codes "\"readBucketRetentions\",\"writeBucketRetentions\",\"readBucketEncryption\","
    ++ codes "\"writeBucketEncryption\",\"readBucketReplications\",\"writeBucketReplications\","
    ++ codes "\"readBucketNotifications\",\"writeBucketNotifications\",\"listFiles\",\"readFiles\","
    ++ codes "\"shareFiles\",\"writeFiles\",\"deleteFiles\",\"readFileLegalHolds\","
    ++ codes "\"writeFileLegalHolds\",\"readFileRetentions\",\"writeFileRetentions\","
    ++ codes "\"bypassGovernance\"],\"downloadUrl\":\"http://127.0.0.1:8080\","
    ++ codes "\"infoType\":\"storageApi\",\"namePrefix\":null,\"recommendedPartSize\":100000000}},"
    ++ codes "\"applicationKeyExpirationTimestamp\":null,"
    ++ codes "\"authorizationToken\":\"3_00000001_0000000000000001_0000000000000001_0000000000000002\"}"

abbrev pub limit_text : List ℕ
limit_text =
    codes "{\"accountId\":\"a1b2c3d4e5f6\","
    ++ codes "\"apiInfo\":{\"storageApi\":{\"absoluteMinimumPartSize\":10,"
    ++ codes "\"apiUrl\":\"http://127.0.0.1:8080\",\"bucketId\":\"000000000000000000000001\","
    ++ codes "\"bucketName\":\"photos-1\",\"capabilities\":[\"listFiles\",\"readFiles\"],"
    ++ codes "\"downloadUrl\":\"http://127.0.0.1:8080\",\"infoType\":\"storageApi\","
    ++ codes "\"namePrefix\":\"logs/\",\"recommendedPartSize\":100000000}},"
    ++ codes "\"applicationKeyExpirationTimestamp\":5000000,"
    ++ codes "\"authorizationToken\":\"3_00000001_0000000000000002_0000000000000001_0000000000000002\"}"

-- in version 4
abbrev pub limit_text_4 : List ℕ
limit_text_4 =
    codes "{\"accountId\":\"a1b2c3d4e5f6\","
    ++ codes "\"apiInfo\":{\"storageApi\":{\"absoluteMinimumPartSize\":10,"
    ++ codes "\"apiUrl\":\"http://127.0.0.1:8080\",\"buckets\":[{\"id\":\"000000000000000000000001\","
    ++ codes "\"name\":\"photos-1\"}],\"capabilities\":[\"listFiles\",\"readFiles\"],"
    ++ codes "\"downloadUrl\":\"http://127.0.0.1:8080\",\"infoType\":\"storageApi\","
    ++ codes "\"namePrefix\":\"logs/\",\"recommendedPartSize\":100000000}},"
    ++ codes "\"applicationKeyExpirationTimestamp\":5000000,"
    ++ codes "\"authorizationToken\":\"3_00000001_0000000000000002_0000000000000001_0000000000000002\"}"

-- the bucket is gone
abbrev pub gone_text : List ℕ
gone_text =
    codes "{\"accountId\":\"a1b2c3d4e5f6\","
    ++ codes "\"apiInfo\":{\"storageApi\":{\"absoluteMinimumPartSize\":10,"
    ++ codes "\"apiUrl\":\"http://127.0.0.1:8080\",\"bucketId\":\"000000000000000000000001\","
    ++ codes "\"bucketName\":null,\"capabilities\":[\"listFiles\",\"readFiles\"],"
    ++ codes "\"downloadUrl\":\"http://127.0.0.1:8080\",\"infoType\":\"storageApi\","
    ++ codes "\"namePrefix\":\"logs/\",\"recommendedPartSize\":100000000}},"
    ++ codes "\"applicationKeyExpirationTimestamp\":5000000,"
    ++ codes "\"authorizationToken\":\"3_00000001_0000000000000002_0000000000000001_0000000000000002\"}"

abbrev pub gone_text_4 : List ℕ
gone_text_4 =
    codes "{\"accountId\":\"a1b2c3d4e5f6\","
    ++ codes "\"apiInfo\":{\"storageApi\":{\"absoluteMinimumPartSize\":10,"
    ++ codes "\"apiUrl\":\"http://127.0.0.1:8080\",\"buckets\":[{\"id\":\"000000000000000000000001\","
    ++ codes "\"name\":null}],\"capabilities\":[\"listFiles\",\"readFiles\"],"
    ++ codes "\"downloadUrl\":\"http://127.0.0.1:8080\",\"infoType\":\"storageApi\","
    ++ codes "\"namePrefix\":\"logs/\",\"recommendedPartSize\":100000000}},"
    ++ codes "\"applicationKeyExpirationTimestamp\":5000000,"
    ++ codes "\"authorizationToken\":\"3_00000001_0000000000000002_0000000000000001_0000000000000002\"}"

abbrev pub unknown_text : List ℕ
unknown_text = codes "{\"code\":\"bad_auth_token\",\"message\":\"P2: unknown token or key\",\"status\":401}"

abbrev pub no_token_text : List ℕ
no_token_text = codes "{\"code\":\"unauthorized\",\"message\":\"P1: no token\",\"status\":401}"

abbrev pub many_buckets_text : List ℕ
many_buckets_text = codes "{\"code\":\"bad_request\",\"message\":\"key has several buckets\",\"status\":400}"

abbrev pub new_key_text : List ℕ
new_key_text =
    codes "{\"accountId\":\"a1b2c3d4e5f6\","
    ++ codes "\"applicationKey\":\"K0010000000000000003000000000000000400000000000000050000000000000006\","
    ++ codes "\"applicationKeyId\":\"001a1b2c3d4e5f60000000002\",\"bucketId\":null,"
    ++ codes "\"capabilities\":[\"listFiles\"],\"expirationTimestamp\":2000,\"keyName\":\"k\","
    ++ codes "\"namePrefix\":null,\"options\":[]}"

-- a new key of bucket 1, in version 4
abbrev pub new_key_text_4 : List ℕ
new_key_text_4 =
    codes "{\"accountId\":\"a1b2c3d4e5f6\","
    ++ codes "\"applicationKey\":\"K0010000000000000001000000000000000200000000000000030000000000000004\","
    ++ codes "\"applicationKeyId\":\"001a1b2c3d4e5f60000000002\","
    ++ codes "\"bucketIds\":[\"000000000000000000000001\"],\"capabilities\":[\"listFiles\"],"
    ++ codes "\"expirationTimestamp\":61000,\"keyName\":\"k\",\"namePrefix\":null,\"options\":[]}"

-- and one of no bucket
abbrev pub free_key_text_4 : List ℕ
free_key_text_4 =
    codes "{\"accountId\":\"a1b2c3d4e5f6\","
    ++ codes "\"applicationKey\":\"K0010000000000000001000000000000000200000000000000030000000000000004\","
    ++ codes "\"applicationKeyId\":\"001a1b2c3d4e5f60000000002\",\"bucketIds\":null,"
    ++ codes "\"capabilities\":[\"listFiles\"],\"expirationTimestamp\":61000,\"keyName\":\"k\","
    ++ codes "\"namePrefix\":null,\"options\":[]}"

abbrev pub key_text : List ℕ
key_text =
    codes "{\"accountId\":\"a1b2c3d4e5f6\",\"applicationKeyId\":\"001a1b2c3d4e5f60000000001\","
    ++ codes "\"bucketId\":\"000000000000000000000001\",\"capabilities\":[\"listFiles\","
    ++ codes "\"readFiles\"],\"expirationTimestamp\":5000000,\"keyName\":\"logs\","
    ++ codes "\"namePrefix\":\"logs/\",\"options\":[]}"

-- a key of two buckets
abbrev pub two_text : List ℕ
two_text =
    codes "{\"accountId\":\"a1b2c3d4e5f6\",\"applicationKeyId\":\"001a1b2c3d4e5f60000000001\","
    ++ codes "\"bucketId\":\"000000000000000000000001\",\"capabilities\":[\"listBuckets\","
    ++ codes "\"listFiles\"],\"expirationTimestamp\":null,\"keyName\":\"\",\"namePrefix\":null,"
    ++ codes "\"options\":[\"multiBucket\"]}"

abbrev pub two_text_4 : List ℕ
two_text_4 =
    codes "{\"accountId\":\"a1b2c3d4e5f6\",\"applicationKeyId\":\"001a1b2c3d4e5f60000000001\","
    ++ codes "\"bucketIds\":[\"000000000000000000000001\",\"000000000000000000000003\"],"
    ++ codes "\"capabilities\":[\"listBuckets\",\"listFiles\"],\"expirationTimestamp\":null,"
    ++ codes "\"keyName\":\"\",\"namePrefix\":null,\"options\":[]}"

abbrev pub keys_text : List ℕ
keys_text =
    codes "{\"keys\":[{\"accountId\":\"a1b2c3d4e5f6\","
    ++ codes "\"applicationKeyId\":\"001a1b2c3d4e5f60000000001\",\"bucketId\":null,"
    ++ codes "\"capabilities\":[\"writeKeys\",\"listFiles\"],\"expirationTimestamp\":null,"
    ++ codes "\"keyName\":\"\",\"namePrefix\":null,\"options\":[]}],"
    ++ codes "\"nextApplicationKeyId\":\"001a1b2c3d4e5f60000000002\"}"

abbrev pub last_keys_text : List ℕ
last_keys_text =
    codes "{\"keys\":[{\"accountId\":\"a1b2c3d4e5f6\","
    ++ codes "\"applicationKeyId\":\"001a1b2c3d4e5f60000000002\",\"bucketId\":null,"
    ++ codes "\"capabilities\":[\"writeKeys\",\"listFiles\"],\"expirationTimestamp\":null,"
    ++ codes "\"keyName\":\"\",\"namePrefix\":null,\"options\":[]}],\"nextApplicationKeyId\":null}"
