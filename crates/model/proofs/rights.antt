-- Rights (card 4): what the steps of a restricted job are, which plans it allows, what its estimate counts, that barred steps are not noticed, and that
-- further rights never make a plan dearer.
pub mod Steps
pub mod Plans
pub mod Lists
pub mod Alike
pub mod Counted
pub mod Further
