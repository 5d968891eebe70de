-- Lines, requests and areas by the numbers of their actors, bricks and objects.
use Rattle.std.specs.Prelude.{ℕ, Bool, true, false, List, Option}
use Rattle.afr_base.specs.declared.ids.Kind.{Kind}
use Rattle.afr_base.specs.declared.ids.NameId.{NameId}
use Rattle.afr_base.specs.declared.ids.What.{What}
use Rattle.afr_base.specs.declared.marks.Marks.{Marks}
use Rattle.afr_object.specs.declared.change.Change.{Change}
use Rattle.afr_object.specs.declared.change.Change.TheVariants.{Make}
use Rattle.afr_object.specs.declared.change.Repair.{Repair}
use Rattle.afr_object.specs.declared.change.Repair.TheVariants.{CutTo}
use Rattle.afr_lines.specs.declared.answer.Told.{Told}
use Rattle.afr_lines.specs.declared.line.Line.{Line}
use Rattle.afr_lines.specs.declared.line.Line.TheVariants.{Ask, Begin, HealBegin, End, HealEnd}
use Rattle.afr_lines.specs.declared.reply.HealReply.{HealReply}
use Rattle.afr_lines.specs.declared.reply.Reply.{Reply}
use Rattle.afr_lines.specs.declared.reply.Reply.TheVariants.{Ok}
use Rattle.afr_lines.specs.declared.request.Area.{Area}
use Rattle.afr_lines.specs.declared.request.Area.TheVariants.{Range, Name}
use Rattle.afr_lines.specs.declared.request.Request.{Request}
use Rattle.afr_lines.specs.declared.request.Request.TheVariants.{Look, Pre, Post, Settle}

-- actor a asks brick b
abbrev pub ask_by : ℕ → ℕ → Request → Told → Bool → Line
ask_by a b request told took = Ask (record { 0 = a }) (record { 0 = b }) request told took

-- actor a begins an attempt
abbrev pub begin_by : ℕ → Change → Line
begin_by a change = Begin (record { 0 = a }) change

-- actor a begins a piece of a heal of object g
abbrev pub heal_begin_by : ℕ → ℕ → Kind → Line
heal_begin_by a g kind = HealBegin (record { 0 = a }) (record { 0 = g }) kind

-- actor a ends a work
abbrev pub end_by : ℕ → Reply → Line
end_by a reply = End (record { 0 = a }) reply

-- actor a ends a heal of object g
abbrev pub heal_end_by : ℕ → ℕ → Kind → HealReply → Line
heal_end_by a g kind reply = HealEnd (record { 0 = a }) (record { 0 = g }) kind reply

-- a look at object g
abbrev pub look_at : ℕ → Request
look_at g = Look (record { 0 = g })

-- a pre-op on object g
abbrev pub pre_on : ℕ → Kind → Request
pre_on g kind = Pre (record { 0 = g }) kind

-- a post-op of attempt q on object g
abbrev pub post_on : ℕ → ℕ → Kind → List ℕ → Request
post_on q g kind missed = Post q (record { 0 = g }) kind missed

-- a settling of object g
abbrev pub settle_on : ℕ → Kind → Marks → Request
settle_on g kind less = Settle (record { 0 = g }) kind less

-- object g is made under a name of a directory
abbrev pub make_in : ℕ → ℕ → ℕ → What → Change
make_in dir name g what = Make (record { 0 = dir }) (record { 0 = name }) (record { 0 = g }) what

-- object g is cut to a length
abbrev pub cut_to : ℕ → ℕ → Repair
cut_to g len = CutTo (record { 0 = g }) len

-- a range of object g
abbrev pub range_of : ℕ → ℕ → ℕ → Area
range_of g from to = Range (record { 0 = g }) from to

-- a name of directory g, or all of them
abbrev pub name_of : ℕ → Option NameId → Area
name_of g name = Name (record { 0 = g }) name

-- whether a reply says ok
abbrev pub is_ok : Reply → Bool
is_ok (Ok good) = true
is_ok reply = false
