pub mod CacheOnly
