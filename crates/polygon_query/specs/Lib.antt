pub mod GeoJson
pub mod Refusals
pub mod Shape
pub mod PolygonLaws
