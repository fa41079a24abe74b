pub mod Coming
pub mod Written
pub mod Courses
pub mod Telling
pub mod TurnLaws
pub mod Cuts
