pub mod BucketLemmas
