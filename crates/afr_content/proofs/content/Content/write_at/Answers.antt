-- What a write leaves of a file, by what it leaves in its pages.
use Rattle.std.proofs.Common.{◌≡◌, ◌<◌, length, ap, sym, ◌∙◌, arith}
use Rattle.std.proofs.lemmas.Bool.{eqb-false}
use Rattle.afr_content.specs.Kept.{file_of, kept}
use Rattle.afr_content.proofs.Calls.{bytes_after_write, file_after_write, numbers_after_write, on_err}
use Rattle.afr_content.proofs.WholeFile.{IsFile-same}
use Rattle.afr_content.proofs.content.Content.write_at.Goals as goal

pub invariant_of-self : goal.invariant_of-self
invariant_of-self c = IsFile-same _ (kept c.self.inside.pages.entries) _ (λ i q. c.in_err-overlay.ensures.err q i) c.self.invariant

pub returns-in_err-overlay-clause-err : goal.returns-in_err-overlay-clause-err
returns-in_err-overlay-clause-err c = on_err c.from_residual.result (ap (file_of c.self.inside.len) (λ i q. c.in_err-overlay.ensures.err q i) ∙ c.self.view_is)

pub invariant_of-self-2 : goal.invariant_of-self-2
invariant_of-self-2 c =
    rw c.max-self-inside.ensures
    (file_after_write c.self.inside.len (kept c.self.inside.pages.entries) (kept c.overlay.new.pages.entries) c.self.invariant c.args.at c.args.bytes.now c.requires c.in_ok-overlay.ensures.ok)

pub returns-clause-ok : goal.returns-clause-ok
returns-clause-ok c =
    let none : length c.args.bytes.now ≡ 0 → ⊥ = eqb-false (length c.args.bytes.now) 0 (sym c.is_empty.ensures ∙ c.if-is_empty.false) in
    let some : 0 < length c.args.bytes.now = omega arith in
    rw (c.max-self-inside.ensures, ← c.self.view_is)
    (bytes_after_write c.self.inside.len (kept c.self.inside.pages.entries) (kept c.overlay.new.pages.entries) c.self.invariant c.args.at c.args.bytes.now c.requires c.in_ok-overlay.ensures.ok some)

pub returns-clause-pages : goal.returns-clause-pages
returns-clause-pages c =
    rw (← c.self.view_is)
    (numbers_after_write c.self.inside.len (kept c.self.inside.pages.entries) (kept c.overlay.new.pages.entries) c.self.invariant c.args.at c.args.bytes.now c.requires c.in_ok-overlay.ensures.ok)
