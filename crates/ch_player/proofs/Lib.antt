pub mod JsonStrings
pub mod Played
pub mod Roundings
pub mod Tellings
pub mod HooksTaken
