pub mod PrintedData
pub mod DataForm
pub mod PrintedLine
pub mod PrintedPlan
pub mod PrintedParts
