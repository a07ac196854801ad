-- What a search explores (document 01, "Pairs and hints"), over any transition system.
pub mod Key
pub mod System
pub mod Equations
pub mod Explore
pub mod Guided
