-- The lists that the crawler was given, as a volume has them.
use Rattle.std.specs.Prelude.{◌≡◌, ◌&&◌, ◌++◌, ◌==◌, ℕ, Bool, true, false, List, [], ◌∷◌, Option, None, Some, reverse, slice_get, if◌then◌else◌}
use Rattle.afr_base.specs.declared.ids.Gfid.{Gfid}
use Rattle.afr_base.specs.declared.ids.What.{What}
use Rattle.afr_lines.specs.Work.{Work, work}
use Rattle.afr_lines.specs.declared.answer.Told.TheVariants.{Given}
use Rattle.afr_lines.specs.declared.line.Line.{Line}
use Rattle.afr_lines.specs.declared.line.Line.TheVariants.{Ask}
use Rattle.afr_lines.specs.declared.line.Next.{Next}
use Rattle.afr_lines.specs.declared.line.Next.TheVariants as next
use Rattle.afr_lines.specs.declared.request.Request.TheVariants as request
use Rattle.afr_model.specs.Crawl.{crawler, given_by, lists_by}
use Rattle.afr_object.specs.Indexed.{index_of}
use Rattle.afr_plan.specs.declared.plan.Plan.{Plan}
use Rattle.afr_heal_round.specs.Rounding.{Rounding, next_of}
use Rattle.afr_healer.specs.declared.healer.Healer.{Healer}
use Rattle.afr_server.specs.Serving.{Serving}
use Rattle.afr_volume.specs.Keeping.{IsWhole}
use Rattle.afr_volume.specs.declared.actor.Actor.{Actor}

-- what each round was given
abbrev pub Lists : Type 0
Lists = List (Option (List (Gfid × What)))

-- ---- as the log has them
-- the round that is under way counts once it has asked for its index
abbrev pub with_present : Plan → Work → Lists → Lists
with_present p [] lists = lists
with_present p (x ∷ w) lists = given_by p (x ∷ w) ∷ lists

-- what the rounds of the crawler were given, the latest first
abbrev pub given_lists : Plan → List Line → Lists
given_lists p log = with_present p (work crawler log) (lists_by p log)

-- ---- as a line makes them
-- the index that a brick has, where the next line is a request to it
abbrev pub ShowsNext : List Serving → Option (List (Gfid × What)) → Next → Type 0
ShowsNext servers shown (next.Ask b asked) = (s : Serving) → slice_get servers b.0 ≡ Some s → shown ≡ Some (index_of s.copies.objects)
ShowsNext servers shown other = shown ≡ None

abbrev pub gives_index : Line → Bool
gives_index (Ask a b request.Index Given took) = true
gives_index line = false

-- one list more, where one was shown: the line gave it or didn't
abbrev pub noted : Option (List (Gfid × What)) → Line → Lists → Lists
noted None line lists = lists
noted (Some list) line lists = lists ++ (if gives_index line then Some list else None) ∷ []

-- a line of the crawler was noted, and one of any other healer wasn't
pub record ListsLine (crawl : Bool) (a : ℕ) (healers : List Healer) (servers : List Serving) (line : Line) (old new : Lists) : Type 0 where
  pub shown : Option (List (Gfid × What))
  pub value : new ≡ noted shown line old
  pub none : (crawl && (a == 17)) ≡ false → shown ≡ None
  pub shows : (x : Healer) (m : Rounding) → (crawl && (a == 17)) ≡ true → slice_get healers 0 ≡ Some x → x.round ≡ Some m → ShowsNext servers shown (next_of m)

-- ---- as a volume keeps them
-- the whole, and beside it, where the healers crawl, the lists that the first was given
pub record IsListed (crawl : Bool) (p : Plan) (log : List Line) (servers : List Serving) (actors : List Actor) (healers : List Healer) (made : ℕ) (lists : Lists) : Type 0 where
  pub whole : IsWhole crawl p log servers actors healers made
  pub given : crawl ≡ true → reverse lists ≡ given_lists p log
