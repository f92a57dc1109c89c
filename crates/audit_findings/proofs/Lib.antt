mod EachProcess
mod Kept
pub mod ObjectWalk
pub mod FewLaws
pub mod AttachedObjects
pub mod SequenceLaws
mod LineCounts
mod OpaqueWords
pub mod CodeLaws
pub mod FrameLaws
pub mod HeldLaws
pub mod EntryWalk
pub mod EntriesAhead
pub mod RecordsThere
pub mod Rising
pub mod PlacesRise
mod GivenLaws
mod OrderLaws
pub mod ThreadFits
mod CallCounts
mod ThreadTurns
mod CallEvents
mod ThreadLists
mod CallsTold
mod KeyReadings
mod MatchedLaws
mod NoTransaction
mod RecordCountLaws
mod OnewayCountLaws
pub mod TurnLaws
pub mod EventLists
pub mod HandleRows
pub mod RowsThere
mod EventCountLaws
mod HandleValues
mod NodeValues
mod KeyRows
mod Outstanding
mod HeldObjects
mod HandleRowLaws
mod NodeRowLaws
