-- The text of a log that is read from its oldest line on, with one line more.
use Rattle.std.proofs.Common.{◌≡◌, ◌∙◌, ◌⊎◌, inl, inr, ℕ, ◌+◌, ◌<◌, ◌≤◌, List, ◌++◌, Some, None, refl, sym, ap, arith, append_assoc, length, take, get_or, reverse, slice_get}
use Rattle.std.specs.Prelude.{codes, decimal}
use Rattle.std.proofs.lemmas.Option.{slice_get_cases}
use Rattle.afr_lines.specs.LogLemmas.{length-before, newest}
use Rattle.afr_lines.specs.declared.line.Line.{Line}
use Rattle.afr_plan.specs.declared.plan.Plan.{Plan}
use Rattle.afr_report_trace.specs.Lines.{line_text, said_text, trace_of}
use Rattle.afr_report_trace.specs.Texts.{IsRow, IsText, unplaced_text}

in_one : (position space said end : List ℕ) → position ++ (space ++ said ++ end) ≡ position ++ space ++ said ++ end
in_one position space said end = simp append_assoc refl

-- the row at a position, and the trace with it
pub record NextRow (p : Plan) (log : List Line) (at : ℕ) (texts : List (List ℕ)) (asker rest : ℕ) : Type 0 where
  pub first : List ℕ
  pub last : List ℕ
  pub asks : IsText texts asker first
  pub says : IsText texts rest last
  pub text : trace_of p (reverse (take at log)) ++ (decimal at ++ (first ++ last)) ≡ trace_of p (reverse (take (at + 1) log))

pub next_row : (p : Plan) (log : List Line) (at : ℕ) (texts : List (List ℕ)) (asker rest : ℕ) → at < length log
    → ((line : Line) → slice_get log at ≡ Some line → IsRow texts asker rest (unplaced_text p line)) → NextRow p log at texts asker rest
next_row p log at texts asker rest small rows = go (slice_get_cases log at).1
  where
    go : ((line : Line) × (at < length log) × (slice_get log at ≡ Some line) × (get_or log at line ≡ line)) ⊎ ((length log ≤ at) × (slice_get log at ≡ None)) → NextRow p log at texts asker rest
    go (inl e) =
        let row = rows e.0 e.2 in
        let before = trace_of p (reverse (take at log)) in
        let said : before ++ (decimal at ++ (row.first ++ row.last)) ≡ before ++ line_text p at e.0 =
        ap (λ (t : List ℕ). before ++ (decimal at ++ t)) (sym row.whole) ∙ ap (λ (t : List ℕ). before ++ t) (in_one (decimal at) (codes " ") (said_text p e.0) (codes "\n")) in
        let placed : before ++ line_text p at e.0 ≡ before ++ line_text p (length (reverse (take at log))) e.0 = ap (λ (n : ℕ). before ++ line_text p n e.0) (sym (length-before log at small)) in
        record {
          first = row.first;
          last = row.last;
          asks = row.asks;
          says = row.says;
          text = said ∙ placed ∙ ap (λ (t : List Line). trace_of p t) (sym (newest log at e.0 small e.3));
        }
    go (inr e) = absurd (omega (arith, e.0, small))
