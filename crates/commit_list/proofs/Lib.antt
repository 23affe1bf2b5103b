pub mod Heads
pub mod Lists
pub mod Bodies
pub mod CommitPages
pub mod CommitDamages
