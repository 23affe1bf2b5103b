pub mod BoxRelation
pub mod RelationLemmas
pub mod Reach
