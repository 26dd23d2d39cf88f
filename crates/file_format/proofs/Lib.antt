pub mod Spelling
mod AsciiTexts
mod SaidRows
pub mod Compact
pub mod WrittenLines
pub mod WrittenFiles
pub mod WrittenHistories
pub mod NumberedTexts
mod WholeOrNothing
pub mod WrittenOrders
mod TakenLines
pub mod EachElement
pub mod Converting
pub mod FoundMembers
pub mod OrderPieces
pub mod Showing
mod OrdersByNumber
pub mod SayingRows
pub mod SayingPieces
pub mod QuorumRules
pub mod SayingHalls
pub mod LineFaults
pub mod HallFaults
pub mod Once
pub mod OneOrder
pub mod OneFault
pub mod SharpFormats
pub mod LongHistories
pub mod RowsAcrossHalls
pub mod RowsByHall
pub mod WrittenHalls
pub mod HallTexts
pub mod OneRowMore
pub mod Votes
pub mod OneHall
mod WritingOn
pub mod ListedNumbers
pub mod PieceByPiece
