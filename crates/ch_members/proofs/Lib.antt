pub mod Gives
pub mod MembersOfName
pub mod OnlyOne
pub mod Distinct
pub mod SpelledValues
pub mod StringsOf
pub mod FirstPlaces
