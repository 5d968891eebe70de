-- A client's present work: what its machine would write next, and what it makes of what is heard.
use Rattle.std.specs.Prelude.{◌≡◌, ℕ, not, Bool, true, false, List, [], Option}
use Rattle.afr_base.specs.declared.ids.BrickId.{BrickId}
use Rattle.afr_object.specs.declared.change.Load.{Load}
use Rattle.afr_object.specs.declared.change.Load.TheVariants as load
use Rattle.afr_lines.specs.declared.answer.Answer.{Answer}
use Rattle.afr_lines.specs.declared.line.Heard.{Heard}
use Rattle.afr_lines.specs.declared.line.Heard.TheVariants as heard
use Rattle.afr_lines.specs.declared.line.Next.{Next}
use Rattle.afr_lines.specs.declared.line.Next.TheVariants as next
use Rattle.afr_lines.specs.declared.reply.Reply.TheVariants.{Failed}
use Rattle.afr_discipline.specs.Stands.{no_lines}
use Rattle.afr_discipline.specs.declared.register.Register.{Register}
use Rattle.afr_rule.specs.Choosing.{Calls}
use Rattle.afr_rule.specs.declared.candidate.Candidate.{Candidate}
use Rattle.afr_client_walk.specs.Choosing.{IsAmong, RuleAnswers, reader_of}
use Rattle.afr_client_entry.specs.Entry as entry
use Rattle.afr_client_read.specs.Lookup as lookup
use Rattle.afr_client_write.specs.Write as write
use Rattle.afr_client_entry.specs.Renames.Rename as rename
use Rattle.afr_client.specs.declared.work.WorkMachine.{WorkMachine}
use Rattle.afr_client.specs.declared.work.WorkMachine.TheVariants.{Idle, Lookup, Write, Entry, Rename}

-- no command has begun
abbrev pub is_idle : WorkMachine → Bool
is_idle Idle = true
is_idle work = false

-- a command has begun
abbrev pub IsBusy : WorkMachine → Type 0
IsBusy Idle = ⊥
IsBusy work = Unit {0}

-- what a machine keeps at every moment: somebody is left to ask
abbrev pub IsWork : WorkMachine → Type 0
IsWork Idle = Unit {0}
IsWork (Lookup m) = lookup.IsLookup m.walk m.stage
IsWork (Write m) = write.IsWrite m.walk m.stage
IsWork (Entry m) = entry.IsEntry m.walk m.job m.stage
IsWork (Rename m) = rename.IsRename m.paths m.stage

-- whether no request and no attempt is left
abbrev pub is_over : WorkMachine → Bool
is_over Idle = true
is_over (Lookup m) = not (lookup.is_asking m.stage)
is_over (Write m) = write.is_over m.stage
is_over (Entry m) = entry.is_over m.stage
is_over (Rename m) = rename.is_over m.stage

-- the next line, if it is written at this position
abbrev pub next_of : ℕ → WorkMachine → Next
next_of at Idle = next.End Failed
next_of at (Lookup m) = lookup.next_of m
next_of at (Write m) = write.next_of at m
next_of at (Entry m) = entry.next_of at m
next_of at (Rename m) = rename.next_of at m

-- the register of a client that has no work is that of no lines, in a volume of one brick
abbrev pub idle_register : Register
idle_register = no_lines (record { n = 1; arbiter = false })

-- what the lines so far show
abbrev pub register_of : WorkMachine → Register
register_of Idle = idle_register
register_of (Lookup m) = m.walk.register
register_of (Write m) = write.register_of m
register_of (Entry m) = entry.register_of m
register_of (Rename m) = rename.register_of m

-- the contents that go with the next request
abbrev pub CarriesNext : WorkMachine → Load → Type 0
CarriesNext Idle carried = carried ≡ load.Nothing
CarriesNext (Lookup m) carried = carried ≡ load.Nothing
CarriesNext (Write m) carried = write.CarriesNext m.stage carried
CarriesNext (Entry m) carried = entry.CarriesNext m.stage carried
CarriesNext (Rename m) carried = rename.CarriesNext m.stage carried

-- what the rule is asked for by what is heard: the good copies of what is read next, where it ends the looks, and else nothing
abbrev pub choices_heard : Heard → WorkMachine → List Candidate
choices_heard of Idle = []
choices_heard of (Lookup m) = lookup.choices_heard of m
choices_heard of (Write m) = write.choices_heard of m
choices_heard of (Entry m) = entry.choices_heard of m
choices_heard of (Rename m) = rename.choices_heard of m

-- the same by an answer at this position
abbrev pub choices_of : Answer → ℕ → WorkMachine → List Candidate
choices_of a at work = choices_heard (heard.Answer a at) work

-- the work after its line was written and answered; this copy is read next, where there is one to choose
abbrev pub heard_by : BrickId → Heard → WorkMachine → WorkMachine
heard_by chosen of Idle = Idle
heard_by chosen of (Lookup m) = Lookup (lookup.heard_by chosen of m)
heard_by chosen of (Write m) = Write (write.heard_by chosen of m)
heard_by chosen of (Entry m) = Entry (entry.heard_by chosen of m)
heard_by chosen of (Rename m) = Rename (rename.heard_by chosen of m)

-- the work has heard this: the rule was asked where there was anything to choose from, and its copy is the one that is read
pub record IsFed {F : Type 0} (calls : Calls F) (choose : F) (of : Heard) (old new : WorkMachine) : Type 0 where
  pub picked : Option BrickId
  pub answers : RuleAnswers calls choose (choices_heard of old) picked
  pub value : new ≡ heard_by (reader_of picked) of old

-- the same, whatever rule it was: the copy that is read is one of those
pub record IsAnswered (of : Heard) (old new : WorkMachine) : Type 0 where
  pub chosen : BrickId
  pub among : IsAmong (choices_heard of old) chosen
  pub value : new ≡ heard_by chosen of old
