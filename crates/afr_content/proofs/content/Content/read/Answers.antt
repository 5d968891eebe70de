-- What a read shows is the file's.
use Rattle.std.proofs.Common.{◌≡◌, ℕ, ◌-◌, ◌≤◌, drop, length, ◌∙◌, arith}
use Rattle.std.proofs.lemmas.List.{length-drop, length-take, take_at}
use Rattle.afr_content.specs.Kept.{kept}
use Rattle.afr_content.proofs.Calls.{bytes_read}
use Rattle.afr_content.proofs.WholeFile.{length-bytes_below}
use Rattle.afr_content.proofs.content.Content.read.Goals as goal

pub returns-then-at-len-clause-value : goal.returns-then-at-len-clause-value
returns-then-at-len-clause-value c = rw (← c.self.view_is, length-bytes_below c.self.inside.len (kept c.self.inside.pages.entries)) (omega arith)

pub returns-clause-value : goal.returns-clause-value
returns-clause-value c = rw (← c.self.view_is, length-bytes_below c.self.inside.len (kept c.self.inside.pages.entries)) (omega arith)

pub returns-clause-bytes : goal.returns-clause-bytes
returns-clause-bytes c =
    let size : length c.read.new.into ≡ c.min-count.result = omega (arith, length-take {A = ℕ}, length-drop {A = ℕ}, c.read.ensures.len) in
    let fits : c.min-count.result ≤ c.self.inside.len - c.args.at = omega arith in
    rw (← c.self.view_is)
    (take_at c.read.new.into (drop c.min-count.result c.args.into.now) c.min-count.result size
    ∙ bytes_read c.self.inside.len (kept c.self.inside.pages.entries) c.self.invariant c.args.at c.min-count.result c.read.new.into size fits (λ k h. c.read.ensures.bytes k (omega (arith, length-take {A = ℕ}, length-drop {A = ℕ}, c.read.ensures.len))))
