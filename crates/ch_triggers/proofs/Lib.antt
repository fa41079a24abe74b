pub mod ContentsOf
pub mod NamesOf
pub mod ChannelsOf
pub mod EventsOf
pub mod BodiesOf
pub mod FitOf
pub mod OneReading
