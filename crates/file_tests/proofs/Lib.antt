pub mod ThreeLeaves
