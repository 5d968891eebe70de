-- The laws that turns and events rest on.
use Rattle.afr_law_next.specs.Turn.{BeginsAnew, GoesOn}
use Rattle.afr_law_next.specs.Asked.{AllowedMayBeAsked, AnsweredIsLawful, AskedIsNoted}
use Rattle.afr_law_next.specs.Begun.{AllowedMayBegin}
use Rattle.afr_law_next.specs.Ended.{AllowedMayEnd}
use Rattle.afr_law_next.specs.Happened.{EventKeepsAll}
use Rattle.afr_law_next.specs.Ready.{NextIsReady}
use Rattle.afr_law_heard.specs.Entry.EntryHears.{EntryBrings, EntryHears, EntryMakesNew}
use Rattle.afr_law_heard.specs.Rename.RenameHears.{RenameBrings, RenameHears, RenameMakesKnown}
use Rattle.afr_law_order.specs.Heal.Heals.{HealersRise}
use Rattle.afr_law_heard.specs.Hears.{LookupBrings, LookupHears, WriteBrings, WriteHears, WriteMakesNothing}
use Rattle.afr_law_cost.specs.Index.Indexes.{NextIndexIsShort}
use Rattle.afr_law_picks.specs.Laws.{AnswersOneOf, BeginKeepsPicked, EndReadsPicked, LineAsksRule, LineKeepsPicked, LineReadsPicked, ReadingBegins}
use Rattle.afr_law_cost.specs.Healer.Laws.{IndexIsShown, RoundPacedAtFirst, RoundPacedLine, RoundPacedOther, RoundPacedReady}
use Rattle.afr_healer.specs.Laws.{CanStepNext, LineKeepsRound, OthersStay, RoundsBegin, RoundsEnd, TasksBegin}
use Rattle.afr_rule.specs.Choosing.{Calls}
use Rattle.afr_heal_machine.specs.Laws.{HealIsInside}
use Rattle.afr_servers.specs.Needs.{AnswersAreRead, NeedsAreMet}
use Rattle.afr_servers.specs.NextLine.{AskedAreServed, EventAreServed, MetAreServed, WrittenAreServed}
use Rattle.afr_law_order.specs.Work.Logs.{ClientRises}
use Rattle.afr_law_order.specs.Work.Queue.{WorkBeginsQueued, WorkBegunQueued, WorkStaysQueued}
use Rattle.afr_law_pace.specs.Work.Left.{WorkBeginsNearer, WorkComesNearer, WorkKeepsEnd, WorkStartsWithin}
use Rattle.afr_client.specs.Laws.{AllowedNext, AsksLow, AsksMore, BeginsFresh, BeginsMore, BeginsWithFive, KeepsFive, KeepsFiveBegun, NotesBegin, NotesEach, StaysOutside, StaysSound}
use Rattle.afr_law_heard.specs.Works.WorkLaws.{BlamedLines, WorkAbout, WorkBegins, WorkBegun, WorkEnds, WorkKeepsName, WorkTellsMore}

-- the register in force at a line, and what it allows
pub record NextLaws : Type 0 where
  pub anew : BeginsAnew
  pub goes_on : GoesOn
  pub asks : AllowedMayBeAsked
  pub noted : AskedIsNoted
  pub lawful : AnsweredIsLawful
  pub begins : AllowedMayBegin
  pub ends : AllowedMayEnd
  pub ready : NextIsReady

-- what a machine writes next, and what becomes of it
pub record WorkLaws : Type 0 where
  pub allowed : AllowedNext
  pub stays : StaysSound
  pub asks_more : AsksMore
  pub begins_more : BeginsMore
  pub notes : NotesEach
  pub notes_begin : NotesBegin
  pub outside : StaysOutside
  pub low : AsksLow
  pub five : KeepsFive
  pub five_begun : KeepsFiveBegun

-- what its lines tell, and what it hears
pub record TellingLaws : Type 0 where
  pub more : WorkTellsMore
  pub begun : WorkBegun
  pub about : WorkAbout
  pub blamed : BlamedLines
  pub ends : WorkEnds
  pub names : WorkKeepsName
  pub lookup_hears : LookupHears
  pub write_hears : WriteHears
  pub lookup_brings : LookupBrings
  pub write_brings : WriteBrings
  pub makes_nothing : WriteMakesNothing
  pub entry_hears : EntryHears
  pub entry_brings : EntryBrings
  pub makes_new : EntryMakesNew
  pub rename_hears : RenameHears
  pub rename_brings : RenameBrings
  pub rename_known : RenameMakesKnown

-- by which copy it reads
pub record ReadingLaws : Type 0 where
  pub line : LineKeepsPicked
  pub begun : BeginKeepsPicked

-- what the servers need and make of it
pub record ServerLaws : Type 0 where
  pub asked : AskedAreServed
  pub written : WrittenAreServed
  pub met : MetAreServed
  pub needs : NeedsAreMet
  pub answers : AnswersAreRead

-- what a rule that is asked makes of it
pub record RuleLaws {F : Type 0} (calls : Calls F) (choose : F) : Type 0 where
  pub among : AnswersOneOf calls choose
  pub asks : LineAsksRule calls choose
  pub reads : LineReadsPicked calls choose
  pub ends : EndReadsPicked calls choose

-- how a work begins
pub record BeginLaws : Type 0 where
  pub fresh : BeginsFresh
  pub five : BeginsWithFive
  pub tells : WorkBegins
  pub reads : ReadingBegins

-- what an event leaves of the log and of the servers
pub record EventLaws : Type 0 where
  pub happened : EventKeepsAll
  pub comes : EventAreServed

-- what a healer's line keeps
pub record RoundLaws : Type 0 where
  pub can : CanStepNext
  pub keeps : LineKeepsRound
  pub others : OthersStay
  pub begins : RoundsBegin
  pub ends : RoundsEnd
  pub tasks : TasksBegin

-- how far the works and rounds come with each line, and in which order they ask for their locks
pub record PaceLaws : Type 0 where
  pub asked : WorkComesNearer
  pub begun : WorkBeginsNearer
  pub ends : WorkKeepsEnd
  pub start : WorkStartsWithin
  pub queues : WorkBeginsQueued
  pub stays : WorkStaysQueued
  pub begun_queued : WorkBegunQueued
  pub rises : ClientRises
  pub first : RoundPacedAtFirst
  pub ready : RoundPacedReady
  pub line : RoundPacedLine
  pub beside : RoundPacedOther
  pub shown : IndexIsShown
  pub index : NextIndexIsShort
  pub inside : HealIsInside
  pub heals : HealersRise

-- all laws of a turn
pub record Laws : Type 0 where
  pub next : NextLaws
  pub work : WorkLaws
  pub telling : TellingLaws
  pub reading : ReadingLaws
  pub servers : ServerLaws
