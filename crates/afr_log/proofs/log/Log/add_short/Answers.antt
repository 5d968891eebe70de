-- A request without an entry of its own changes nothing; with one the log has that line more.
use Rattle.std.specs.Prelude.{◌≡◌, Bool, true, false, is_some, length}
use Rattle.std.proofs.Common.{refl, arith}
use Rattle.afr_log.specs.Entries.{AreThere}
use Rattle.afr_log.proofs.log.Log.add_short.Goals as goal

pub invariant_of-self : goal.invariant_of-self
invariant_of-self c = go (is_some c.pack.result) refl
  where
    go : (b : Bool) → is_some c.pack.result ≡ b → AreThere (length c.self.inside.kept.items) c.pack.new.packed.items
    go true e = c.pack.ensures.there e (length c.self.inside.kept.items) c.self.invariant
    go false e = rw (c.pack.ensures.none e) c.self.invariant

pub returns-clause-some : goal.returns-clause-some
returns-clause-some c = λ some.
    let added = c.pack.ensures.lines some c.self.inside.kept.items in
    grind (arith, added, c.self.view_is)

pub returns-clause-none : goal.returns-clause-none
returns-clause-none c = λ no. rw (c.pack.ensures.none no) c.self.view_is
