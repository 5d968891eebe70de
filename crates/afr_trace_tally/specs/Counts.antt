-- What the lines of a log count in the numbers of a copy.
use Rattle.std.specs.Prelude.{◌≡◌, ℕ, ◌+◌, ◌*◌, ◌<◌, ◌≤◌, ◌^◌, ◌==◌, ◌&&◌, Bool, List, Option, Some, None, length, slice_index, if◌then◌else◌}
use Rattle.std.specs.BTreeMap.{is_at}
use Rattle.std.specs.Map.{lookup}
use Rattle.afr_base.specs.Bricks.{member}
use Rattle.afr_base.specs.Kinds.{same_kind}
use Rattle.afr_base.specs.declared.ids.Gfid.{Gfid}
use Rattle.afr_base.specs.declared.ids.Kind.{Kind}
use Rattle.afr_base.specs.declared.ids.Kind.TheVariants.{Bytes, Attrs, Names}
use Rattle.afr_lines.specs.declared.line.Line.{Line}
use Rattle.afr_lines.specs.declared.line.Line.TheVariants.{Ask}
use Rattle.afr_lines.specs.declared.request.Request.{Request}
use Rattle.afr_lines.specs.declared.request.Request.TheVariants.{Pre, Post, Settle}
use Rattle.afr_model.specs.Sums.{blames, closes_op, opens_op, settles_dirty, settles_pending, sum_over}
use Rattle.afr_object.specs.Tables.{gfid_cmp}
use Rattle.afr_plan.specs.declared.plan.Plan.{Plan}
use Rattle.afr_trace_tally.specs.Flags.{five}
use Rattle.afr_trace_tally.specs.declared.counts.Count.{Count}
use Rattle.afr_trace_tally.specs.declared.counts.Counted.{Counted}
use Rattle.afr_trace_tally.specs.declared.counts.Counts.{Counts}

-- ---- counts
-- nothing was counted
abbrev pub no_count : Count
no_count = record { opened = 0; closed = 0; blamed = five (λ b. 0); settled = five (λ b. 0) }

-- what was counted, where something was
abbrev pub or_none : Option Count → Count
or_none None = no_count
or_none (Some count) = count

-- what two counts make together
abbrev pub plus : Count → Count → Count
plus more was = record {
  opened = more.opened + was.opened;
  closed = more.closed + was.closed;
  blamed = five (λ b. slice_index more.blamed b + slice_index was.blamed b);
  settled = five (λ b. slice_index more.settled b + slice_index was.settled b);
}

-- what n lines can have counted
pub record IsSmall (n : ℕ) (count : Count) : Type 0 where
  pub opened : count.opened ≤ n
  pub closed : count.closed ≤ n * 2 ^ 32
  pub blamed : (b : ℕ) → b < 5 → slice_index count.blamed b ≤ n
  pub settled : (b : ℕ) → b < 5 → slice_index count.settled b ≤ n * 2 ^ 32

-- what one line can count
abbrev pub IsOne : Count → Type 0
IsOne count = IsSmall 1 count

-- one line more can be counted
pub record IsRoomy (count : Count) : Type 0 where
  pub opened : count.opened < 2 ^ 63
  pub closed : count.closed < 2 ^ 63
  pub blamed : (b : ℕ) → b < 5 → slice_index count.blamed b < 2 ^ 63
  pub settled : (b : ℕ) → b < 5 → slice_index count.settled b < 2 ^ 63

-- ---- what one line counts
-- what a request counts, and in which numbers of which object
abbrev pub counted_in : Request → Option Counted
counted_in (Pre g kind) = Some (record { gfid = g; kind = kind; count = record no_count { opened = 1 } })
counted_in (Post attempt g kind missed) = Some (record { gfid = g; kind = kind; count = record no_count { closed = 1; blamed = five (λ b. if member missed b then 1 else 0) } })
counted_in (Settle g kind less) = Some (record { gfid = g; kind = kind; count = record no_count { closed = less.dirty; settled = five (λ b. slice_index less.pending b) } })
counted_in request = None

-- the same of a line that brick x carried out
abbrev pub counted_by : ℕ → Line → Option Counted
counted_by x (Ask a y request told took) = if took && (y.0 == x) then counted_in request else None
counted_by x line = None

-- what of it counts for a copy of an object, where the brick has one
abbrev pub count_here : Option Counted → Gfid → Kind → Bool → Count
count_here None g kind there = no_count
count_here (Some x) g kind there = if (x.gfid.0 == g.0) && same_kind x.kind kind && there then x.count else no_count

-- ---- what a log counts
-- the sums of brick x for an object and a kind
abbrev pub count_of : Plan → List Line → ℕ → Gfid → Kind → Count
count_of p log x g kind = record {
  opened = sum_over (opens_op p x g kind) log;
  closed = sum_over (closes_op p x g kind) log + sum_over (settles_dirty p x g kind) log;
  blamed = five (λ b. sum_over (blames p x b g kind) log);
  settled = five (λ b. sum_over (settles_pending p x b g kind) log);
}

-- ---- where it is kept
-- the counts of a kind
abbrev pub counts_for : Kind → Counts → List (Gfid × Count)
counts_for Bytes counts = counts.bytes
counts_for Attrs counts = counts.attrs
counts_for Names counts = counts.names

-- the counts, with those of a kind replaced
abbrev pub with_counts : Kind → List (Gfid × Count) → Counts → Counts
with_counts Bytes new counts = record counts { bytes = new }
with_counts Attrs new counts = record counts { attrs = new }
with_counts Names new counts = record counts { names = new }

-- the count of an object
abbrev pub count_at : Gfid → List (Gfid × Count) → Count
count_at g counts = or_none (lookup (is_at (gfid_cmp g)) counts)

-- what is kept of brick x is what the log has counted there
pub record AreCounted (p : Plan) (log : List Line) (x : ℕ) (counts : Counts) : Type 0 where
  pub sums : (g : Gfid) (kind : Kind) → count_at g (counts_for kind counts) ≡ count_of p log x g kind
  pub small : (g : Gfid) (kind : Kind) → IsSmall (length log) (count_at g (counts_for kind counts))
