-- What is printed of a plan that was read is read as the same plan, and isn't longer.
use Rattle.std.proofs.Common.{◌≡◌, ℕ, ◌≤◌, List, [], ◌∷◌, ◌++◌, length, sym, ap, ◌∙◌, arith, map, append_assoc, reverse}
use Rattle.std.proofs.lemmas.List.{append-nil, reverse-append, reverse-reverse, length-append}
use Rattle.afr_plan.specs.declared.plan.Plan.{Plan}
use Rattle.afr_plan.specs.TextLines.{bytes_of}
use Rattle.afr_plan.specs.Said.{Said}
use Rattle.afr_plan.specs.PlanOf.{plan_of}
use Rattle.afr_plan.specs.Spells.{IsLine, AreLines, Spells}
use Rattle.afr_plan_print.specs.PrintedLine.{line_text, lines_text}
use Rattle.afr_plan_print.specs.PrintedPlan.{plan_lines, plan_text}
use Rattle.afr_plan_print.proofs.PrintedLineLemmas.{said_printed}
use Rattle.afr_plan_print.proofs.PrintedPartsLemmas.{lines_text-bytes}
use Rattle.afr_plan_print.proofs.VersionLemmas.{settled}

-- a line is printed as one that breaks no rule either
line_printed : (before : List Said) (line : List ℕ) (s : Said) → IsLine before line s → IsLine before (line_text s) s
line_printed before line s l =
    let p = said_printed line s l.form l.bytes l.limits in
    record { bytes = p.bytes; form = p.form; version = l.version; place = l.place; limits = l.limits; order = l.order; totals = l.totals }

-- all lines as they are printed, the oldest first
record ArePrinted (lines : List (List ℕ)) (before all : List Said) : Type 0 where
  said : List Said
  same : reverse said ++ before ≡ all
  again : AreLines (map line_text said) before all
  short : length (bytes_of (map line_text said)) ≤ length (bytes_of lines)

lines_printed : (lines : List (List ℕ)) (before all : List Said) → AreLines lines before all → ArePrinted lines before all
lines_printed [] before all h = record { said = []; same = h.1; again = h; short = omega arith }
lines_printed (line ∷ lines) before all h =
    let s = h.0 in
    let m = lines_printed lines (s ∷ before) all h.2 in
    let p = said_printed line s h.1.form h.1.bytes h.1.limits in
    let a = length-append line (10 ∷ []) in
    let b = length-append (line_text s) (10 ∷ []) in
    let c = length-append (line ++ 10 ∷ []) (bytes_of lines) in
    let d = length-append (line_text s ++ 10 ∷ []) (bytes_of (map line_text m.said)) in
    record {
      said = s ∷ m.said;
      same = ap (λ (t : List Said). t ++ before) (reverse-append (s ∷ []) m.said) ∙ append_assoc (reverse m.said) (s ∷ []) before ∙ m.same;
      again = (s, line_printed before line s h.1, m.again);
      short = omega (arith, a, b, c, d, p.short, m.short);
    }

-- the text of a plan is that of its lines
text_of_lines : (all : List Said) (p : Plan) (lines : List (List ℕ)) (m : ArePrinted lines [] all) → plan_lines (plan_of all) ≡ reverse all → p ≡ plan_of all → plan_text p ≡ bytes_of (map line_text m.said)
text_of_lines all p lines m q e =
    let same : reverse all ≡ m.said = ap reverse (sym m.same ∙ append-nil (reverse m.said)) ∙ reverse-reverse m.said in
    ap plan_text e ∙ ap lines_text (q ∙ same) ∙ lines_text-bytes m.said

pub printed_again : (bytes : List ℕ) (p : Plan) → Spells bytes p → Spells (plan_text p) p
printed_again bytes p h =
    let s = settled h.1.0 h.0 h.1.2 in
    let m = lines_printed s.texts [] s.said s.again in
    let e : p ≡ plan_of s.said = h.2 ∙ sym s.same in
    (s.said, (map line_text m.said, text_of_lines s.said p s.texts m s.printed e, m.again), e)

pub printed_short : (bytes : List ℕ) (p : Plan) → Spells bytes p → length (plan_text p) ≤ length bytes
printed_short bytes p h =
    let s = settled h.1.0 h.0 h.1.2 in
    let m = lines_printed s.texts [] s.said s.again in
    let e : p ≡ plan_of s.said = h.2 ∙ sym s.same in
    omega (arith, m.short, s.short, ap length h.1.1, ap length (text_of_lines s.said p s.texts m s.printed e))
