pub mod Found
pub mod IndexKept
pub mod IndexLemmas
pub mod Made
pub mod Mended
pub mod PlacesLemmas
pub mod OpenLemmas
pub mod ShortcutsLemmas
