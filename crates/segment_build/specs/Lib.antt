pub mod NewSegments
