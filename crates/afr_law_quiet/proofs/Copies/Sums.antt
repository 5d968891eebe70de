-- What a line does to the numbers of a copy, as sums over the log.
use Rattle.std.proofs.Common.{◌≡◌, ℕ, ◌+◌, ◌≤◌, ◌==◌, ◌&&◌, Bool, true, false, refl, sym, ◌∙◌, arith, List, ◌∷◌, if◌then◌else◌, true≢false}
use Rattle.afr_base.specs.Kinds.{same_kind}
use Rattle.afr_base.specs.declared.ids.Gfid.{Gfid}
use Rattle.afr_base.specs.declared.ids.Kind.{Kind}
use Rattle.afr_lines.specs.declared.line.Line.{Line}
use Rattle.afr_plan.specs.declared.plan.Plan.{Plan}
use Rattle.afr_model.specs.Sums.{blames, counted, dirty_of, has_object, opens_op, pending_of, settles_dirty, settles_pending}
use Rattle.afr_law_tables.specs.CopyLaws.{gfid_is}
use Rattle.afr_law_tables.specs.SumLaws.{all_true}
use Rattle.std.proofs.lemmas.Bool.{eqb-true}
use Rattle.afr_model_moves.proofs.Tests.{same_self, same_kind_self}

pub counted_most : (p : Plan) (x : ℕ) (g : Gfid) (kind : Kind) (y : ℕ) (h : Gfid) (k : Kind) (took : Bool) (older : List Line) (n : ℕ) → counted p x g kind y h k took older n ≤ n
counted_most p x g kind y h k took older n = go (took && (y == x) && (h.0 == g.0) && same_kind k kind && has_object p older g x)
  where
    go : (hit : Bool) → (if hit then n else 0) ≤ n
    go true = omega arith
    go false = omega arith

pub counted_none : (p : Plan) (x : ℕ) (g : Gfid) (kind : Kind) (y : ℕ) (h : Gfid) (k : Kind) (took : Bool) (older : List Line) (n : ℕ) → ((h.0 == g.0) && same_kind k kind) ≡ false → counted p x g kind y h k took older n ≡ 0
counted_none p x g kind y h k took older n e = go took (y == x) (h.0 == g.0) (same_kind k kind) (has_object p older g x) e
  where
    go : (a b c d e : Bool) → (c && d) ≡ false → (if a && b && c && d && e then n else 0) ≡ 0
    go a b c d e h = (let none : (a && b && c && d && e) ≡ false = grind (arith, h) in rw none refl)

pub counted_other : (p : Plan) (x : ℕ) (g : Gfid) (kind : Kind) (y : ℕ) (h : Gfid) (k : Kind) (took : Bool) (older : List Line) (n : ℕ) → (y == x) ≡ false → counted p x g kind y h k took older n ≡ 0
counted_other p x g kind y h k took older n e = go took (y == x) (h.0 == g.0) (same_kind k kind) (has_object p older g x) e
  where
    go : (a b c d e : Bool) → b ≡ false → (if a && b && c && d && e then n else 0) ≡ 0
    go a b c d e h = (let none : (a && b && c && d && e) ≡ false = grind (arith, h) in rw none refl)

-- a brick without the object counts nothing
pub counted_absent : (p : Plan) (x : ℕ) (g : Gfid) (kind : Kind) (y : ℕ) (h : Gfid) (k : Kind) (took : Bool) (older : List Line) (n : ℕ) → has_object p older h y ≡ false → counted p x g kind y h k took older n ≡ 0
counted_absent p x g kind y h k took older n none = go (took && (y == x) && (h.0 == g.0) && same_kind k kind && has_object p older g x) refl
  where
    go : (hit : Bool) → (took && (y == x) && (h.0 == g.0) && same_kind k kind && has_object p older g x) ≡ hit → (if hit then n else 0) ≡ 0
    go false e = refl
    go true e = (
        let w = all_true took (y == x) (h.0 == g.0) (same_kind k kind) (has_object p older g x) e in
        absurd (true≢false (sym w.4 ∙ (λ i. has_object p older (gfid_is g h (sym (eqb-true h.0 g.0 w.2)) i) (sym (eqb-true y x w.1) i)) ∙ none))
        )

pub counted_all : (p : Plan) (x : ℕ) (g : Gfid) (kind : Kind) (older : List Line) (n : ℕ) → has_object p older g x ≡ true → counted p x g kind x g kind true older n ≡ n
counted_all p x g kind older n there = rw (same_self x, same_self g.0, same_kind_self kind, there) refl

module _ (p : Plan) (x : ℕ) (g : Gfid) (kind : Kind) (line : Line) (older : List Line) where
  -- a line that opens nothing raises no dirty number
  pub dirty_same : opens_op p x g kind line older ≡ 0 → dirty_of p (line ∷ older) x g kind ≤ dirty_of p older x g kind
  dirty_same none = omega (arith, none)

  pub dirty_more : opens_op p x g kind line older ≤ 1 → dirty_of p (line ∷ older) x g kind ≤ dirty_of p older x g kind + 1
  dirty_more one = omega (arith, one)

  pub dirty_less : (less : ℕ) → opens_op p x g kind line older ≡ 0 → settles_dirty p x g kind line older ≡ less → dirty_of p older x g kind ≤ less → dirty_of p (line ∷ older) x g kind ≡ 0
  dirty_less less none all few = omega (arith, none, all, few)

  -- a line that blames nobody raises no pending number
  pub pending_same : (c : ℕ) → blames p x c g kind line older ≡ 0 → pending_of p (line ∷ older) x c g kind ≤ pending_of p older x c g kind
  pending_same c none = omega (arith, none)

  pub pending_less : (c less : ℕ) → blames p x c g kind line older ≡ 0 → settles_pending p x c g kind line older ≡ less → pending_of p older x c g kind ≤ less → pending_of p (line ∷ older) x c g kind ≡ 0
  pending_less c less none all few = omega (arith, none, all, few)
