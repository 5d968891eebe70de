mod Named
pub mod ApartLemmas
pub mod Opening
pub mod Numbers
pub mod ReadLemmas
pub mod Links
pub mod Descent
