-- What readers must believe: Quotes, Judgments.
pub mod Quotes
pub mod Judgments
-- Laws of a cell's quote.
pub mod Quoted
