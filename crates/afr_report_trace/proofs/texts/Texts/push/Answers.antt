use Rattle.std.proofs.Common.{List, ℕ, [], ◌∷◌, ◌++◌, ◌≡◌, ◌∙◌, ap, length}
use Rattle.afr_report_trace.specs.Texts.{AreCuts, texts_in}
use Rattle.afr_report_trace.proofs.TextLemmas.{pushed}
use Rattle.afr_report_trace.proofs.texts.Texts.push.Goals as goal
use Rattle.afr_report_trace.proofs.texts.Texts.push.Goals.{After-push_reserved}

one_more : (c : After-push_reserved) → AreCuts c.push_reserved.new.self.items (length c.extend_from_slice.new.self.items)
    × (texts_in c.extend_from_slice.new.self.items c.push_reserved.new.self.items ≡ texts_in c.self.inside.bytes.items c.self.inside.cuts.items ++ c.args.text.now ∷ [])
one_more c =
    pushed c.self.inside.bytes.items c.self.inside.cuts.items c.args.text.now _ _ c.len-end.result c.self.invariant c.in_ok-extend_from_slice.ensures.items
    (c.push_reserved.ensures.items ∙ ap (λ (t : List ℕ). t ++ c.len-end.result ∷ []) c.in_ok-try_reserve.ensures.items)
    (c.len-end.ensures ∙ c.extend_from_slice.new.self.ok.0)

pub invariant_of-self-2 : goal.invariant_of-self-2
invariant_of-self-2 c = (one_more c).0

pub returns : goal.returns
returns c = record { ok = (one_more c).1 ∙ ap (λ (t : List (List ℕ)). t ++ c.args.text.now ∷ []) c.self.view_is }
