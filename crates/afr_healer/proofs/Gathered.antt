-- The laws of the crates below that a healer's lines rest on.
use Rattle.afr_discipline.specs.Laws.{NotesStand}
use Rattle.afr_law_heal.specs.Heard.Hears.{HealHears, IndexIsListed}
use Rattle.afr_law_heal.specs.Heard.Holds.{HealBrings, HoldsBegun, HoldsMore, HoldsNone, HoldsOther, HoldsReady}
use Rattle.afr_law_heal.specs.HealLaws.{HealBeginsTold, HealEndsWell, HealSettlesSeen, HealTellsBegun, HealTellsMore}
use Rattle.afr_law_next.specs.Asked.{AllowedMayBeAsked, AnsweredIsLawful, AskedIsNoted}
use Rattle.afr_law_next.specs.Ended.{AllowedMayEnd}
use Rattle.afr_law_next.specs.Healed.{AllowedMayHealBegin, AllowedMayHealEnd}
use Rattle.afr_law_next.specs.Ready.{NextIsReady}
use Rattle.afr_heal_machine.specs.Laws.{HealAllowed, HealAsksLow, HealBegins, HealBeginsFresh, HealBegunStays, HealEndNamed, HealIsInside, HealKeepsFive, HealStays}
use Rattle.afr_servers.specs.Needs.{AnswersAreRead, NeedsAreMet}
use Rattle.afr_servers.specs.NextLine.{AskedAreServed, WrittenAreServed}
use Rattle.afr_law_next.specs.Turn.{BeginsAnew, GoesOn}

-- the register in force at a line, and what it allows
pub record NextLaws : Type 0 where
  pub anew : BeginsAnew
  pub goes_on : GoesOn
  pub asks : AllowedMayBeAsked
  pub noted : AskedIsNoted
  pub lawful : AnsweredIsLawful
  pub heal_begins : AllowedMayHealBegin
  pub heal_ends : AllowedMayHealEnd
  pub ends : AllowedMayEnd
  pub ready : NextIsReady

-- what the servers need and make of it
pub record ServerLaws : Type 0 where
  pub asked : AskedAreServed
  pub written : WrittenAreServed
  pub needs : NeedsAreMet
  pub answers : AnswersAreRead

-- what a heal writes next, and what becomes of it
pub record HealLaws : Type 0 where
  pub allowed : HealAllowed
  pub low : HealAsksLow
  pub fresh : HealBeginsFresh
  pub inside : HealIsInside
  pub five : HealKeepsFive
  pub begins : HealBegins
  pub stays : HealStays
  pub begun_stays : HealBegunStays
  pub end_named : HealEndNamed

-- what its lines tell
pub record TellingLaws : Type 0 where
  pub begins : HealBeginsTold
  pub more : HealTellsMore
  pub begun : HealTellsBegun
  pub settles : HealSettlesSeen
  pub ends : HealEndsWell

-- what it hears, and what it holds of its reads
pub record HearingLaws : Type 0 where
  pub hears : HealHears
  pub listed : IndexIsListed
  pub none : HoldsNone
  pub more : HoldsMore
  pub begun : HoldsBegun
  pub ready : HoldsReady
  pub other : HoldsOther
  pub brings : HealBrings

-- all laws of a healer's line
pub record RoundLaws : Type 0 where
  pub next : NextLaws
  pub servers : ServerLaws
  pub heal : HealLaws
  pub telling : TellingLaws
  pub hearing : HearingLaws
  pub notes_stand : NotesStand
