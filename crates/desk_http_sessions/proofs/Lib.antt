pub mod ExchangeLemmas
pub mod FollowLemmas
pub mod GivenBytesLemmas
