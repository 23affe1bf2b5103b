pub mod Counted
pub mod Loading
pub mod Opening
pub mod LoadAnswers
