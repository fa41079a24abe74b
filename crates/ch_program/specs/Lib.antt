pub mod Commands
pub mod Drills
pub mod Given
pub mod Program
pub mod Replays
pub mod Soaks
pub mod Words
