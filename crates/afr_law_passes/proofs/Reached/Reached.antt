-- Pass after pass, one name further down.
use Rattle.std.proofs.Common.{arith, inl, inr, refl, subst, sym, true, ℕ, zero, suc, ◌<◌, ◌≡◌, ◌≤◌, List, [], ◌∷◌, length}
use Rattle.afr_base.specs.Bricks.{below}
use Rattle.afr_base.specs.declared.ids.Gfid.{Gfid}
use Rattle.afr_base.specs.declared.ids.Kind.TheVariants.{Names}
use Rattle.afr_base.specs.declared.ids.NameId.{NameId}
use Rattle.afr_base.specs.declared.ids.What.TheVariants.{Dir}
use Rattle.afr_object.specs.Tables.{root}
use Rattle.afr_lines.specs.Log.{EveryPrefix}
use Rattle.afr_lines.specs.declared.line.Line.{Line}
use Rattle.afr_plan.specs.declared.plan.Plan.{Plan}
use Rattle.afr_model.specs.Splits.{IsSplit}
use Rattle.afr_model.specs.Sums.{has_object}
use Rattle.afr_law_names.specs.Apart.{OnlyDirectoriesHaveNames}
use Rattle.afr_law.specs.ModelKinds.{IsOneKind, ModelOneKind}
use Rattle.afr_law_names.specs.Named.Named.{EntriesHaveCopies}
use Rattle.afr_law_quiet.specs.Undisturbed.{IsEverywhere}
use Rattle.afr_law_quiet.proofs.Copies.Stretch.{now_of}
use Rattle.afr_law_passes.specs.Converged.{HasConverged, IsClearAlike, IsConverged, IsEverywhereAs, QuietRoundsConverge, QuietRoundsLeave}
use Rattle.afr_law_passes.proofs.Spared.{has_some}
use Rattle.afr_law_passes.specs.Reached.Reached.{ArePasses, HasReached, IsNamed, IsPass, Leads, QuietPassesReach}
use Rattle.afr_law_passes.proofs.Reached.Names.{as_one, as_then, everywhere_as, named_alike, named_dir, named_was, root_there, sort_of}
use Rattle.afr_law_passes.proofs.Reached.Passes.{Known, clear_over, everywhere_later, known_before, known_then, split_left, split_over}

module _ (p : Plan) (only : OnlyDirectoriesHaveNames) (named : EntriesHaveCopies) (kinds : ModelOneKind) where
  abbrev UnSplit : List Line → Gfid → Type 0
  UnSplit log dir = IsSplit p log (below p.shape.n) dir Names → ⊥

  one : (log : List Line) → Known p log → IsOneKind p log
  one log known = kinds p log known.sound.small known.sound.short known.sound.honest known.sound.lawful

  root_held : (log : List Line) (g : Gfid) → g ≡ root → IsEverywhere p log g
  root_held log g is b low = subst (λ (h : Gfid). has_object p log h b ≡ true) (sym is) (root_there p log b)

  -- what has a name is a directory on every brick that has it
  dir_everywhere : (log : List Line) → Known p log → (dir : Gfid) → IsEverywhere p log dir → (b : ℕ) → b < p.shape.n → (name : NameId) (g : Gfid) → IsNamed p log b dir name g → IsEverywhereAs p log dir Dir
  dir_everywhere log known dir every b low name g is = (
      let o = has_some p log b dir (every b low) in
      subst (IsEverywhereAs p log dir) (named_dir only p log b dir name g is o.0 o.1) (as_one p log (one log known) dir every b o.0 o.1)
      )

  -- ---- one pass
  module _ (start log : List Line) (known : Known p log) (pass : IsPass p start log) where
    known_start : Known p start
    known_start = known_then p start pass.bricks log pass.rounds known

    later : (g : Gfid) → IsEverywhere p start g → IsEverywhere p log g
    later = everywhere_later p start pass.bricks log pass.rounds

    -- it leaves the names of such a directory clear and alike, if it isn't in split-brain
    clear_names : (dir : Gfid) → IsEverywhereAs p start dir Dir → UnSplit log dir → IsClearAlike p log dir Names
    clear_names dir held whole = go (now_of (HasConverged p) log known.converged start pass.bricks pass.rounds pass.all dir Dir Names held (inr refl))
      where
        go : IsConverged p start log dir Names → IsClearAlike p log dir Names
        go (inl clear) = clear
        go (inr w) = absurd (whole (split_left p start log known_start known dir Names (everywhere_as p start dir Dir held) w.1 w.0))

    -- so each brick has what they lead to
    named_everywhere : (dir : Gfid) → IsEverywhere p start dir → UnSplit log dir → (b : ℕ) → b < p.shape.n → (name : NameId) (g : Gfid) → IsNamed p log b dir name g → IsEverywhere p log g
    named_everywhere dir every whole b low name g is c near = (
        let dirs : IsEverywhereAs p log dir Dir = dir_everywhere log known dir (later dir every) b low name g is in
        let clear : IsClearAlike p log dir Names = clear_names dir (as_then p start pass.bricks log pass.rounds (one log known) dir Dir every dirs) whole in
        let there = named_alike p log dir clear b c low near name g is in
        named p log c dir name (record { gfid = g; what = there.0 }) there.1
        )

  -- ---- pass after pass
  -- what so many names lead to every brick has; and a pass brings no new names on the way
  record Step (k : ℕ) (log : List Line) : Type 0 where
    held : (b : ℕ) → b < p.shape.n → (path : List NameId) (g : Gfid) → Leads p log b path g → length path ≤ k → IsEverywhere p log g
    back : (last : List Line) → Known p last → IsPass p log last → (b : ℕ) → b < p.shape.n → (path : List NameId) (g : Gfid) → Leads p last b path g → length path ≤ k → Leads p log b path g

  module _ (k : ℕ) (start log : List Line) (known : Known p log) (pass : IsPass p start log) (before : Step k start) where
    had : (b : ℕ) → b < p.shape.n → (path : List NameId) (g : Gfid) → Leads p log b path g → length path ≤ k → IsEverywhere p start g
    had b low path g leads few = before.held b low path g (before.back log known pass b low path g leads few) few

    holds_next : (b : ℕ) → b < p.shape.n → (path : List NameId) (g : Gfid) → Leads p log b path g → length path ≤ suc k → IsEverywhere p log g
    holds_next b low [] g is few = root_held log g is
    holds_next b low (name ∷ path) g (dir, leads, whole, is) few = named_everywhere start log known pass dir (had b low path dir leads (omega (arith, few))) whole b low name g is

    back_next : (last : List Line) → Known p last → IsPass p log last → (b : ℕ) → b < p.shape.n → (path : List NameId) (g : Gfid) → Leads p last b path g → length path ≤ suc k → Leads p log b path g
    back_next last knows next b low [] g is few = is
    back_next last knows next b low (name ∷ path) g (dir, leads, whole, is) few = (
        let there : Leads p log b path dir = back_next last knows next b low path dir leads (omega (arith, few)) in
        let first : IsEverywhere p start dir = had b low path dir there (omega (arith, few)) in
        let every : IsEverywhere p log dir = later start log known pass dir first in
        let dirs : IsEverywhereAs p last dir Dir = dir_everywhere last knows dir (later log last knows next dir every) b low name g is in
        let dirs_then : IsEverywhereAs p log dir Dir = as_then p log next.bricks last next.rounds (one last knows) dir Dir every dirs in
        let whole_then : UnSplit log dir = λ split. whole (split_over p dir Names log next.bricks last knows next.rounds every split) in
        let clear : IsClearAlike p log dir Names = clear_names start log known pass dir (as_then p start pass.bricks log pass.rounds (one log known) dir Dir first dirs_then) whole_then in
        (dir, there, whole_then, named_was p log last dir every (clear_over p dir Names log next.bricks last knows next.rounds every clear.clear) b low name g is)
        )

  steps : (k : ℕ) (log : List Line) → Known p log → ArePasses p k log → Step k log
  steps zero log known ends = record { held = at_root; back = λ last knows next. at_once last }
    where
      at_root : (b : ℕ) → b < p.shape.n → (path : List NameId) (g : Gfid) → Leads p log b path g → length path ≤ 0 → IsEverywhere p log g
      at_root b low [] g is few = root_held log g is
      at_root b low (name ∷ path) g w few = absurd (omega (arith, few))

      at_once : (last : List Line) (b : ℕ) → b < p.shape.n → (path : List NameId) (g : Gfid) → Leads p last b path g → length path ≤ 0 → Leads p log b path g
      at_once last b low [] g is few = is
      at_once last b low (name ∷ path) g w few = absurd (omega (arith, few))
  steps (suc k) log known (start, pass, ends) = (
      let before : Step k start = steps k start (known_start start log known pass) ends in
      record { held = holds_next k start log known pass before; back = back_next k start log known pass before }
      )

  -- ---- the law
  reached : (log : List Line) → (0 < p.shape.n → Known p log) → HasReached p log
  reached log knows k start pass ends b low path g leads few = (
      let some : 0 < p.shape.n = omega (arith, low) in
      let known : Known p log = knows some in
      let before : Step k start = steps k start (known_start start log known pass) ends in
      let sort = sort_of p log (one log known) some g (holds_next k start log known pass before b low path g leads few) in (
        sort.0,
        sort.1,
        λ less kind of. now_of (HasConverged p) log known.converged start pass.bricks pass.rounds pass.all g sort.0 kind (as_then p start pass.bricks log pass.rounds (one log known) g sort.0 (had k start log known pass before b low path g leads less) sort.1) of,
      )
      )

  moments : (log : List Line) → (0 < p.shape.n → Known p log) → EveryPrefix (HasReached p) log
  moments [] knows = reached [] knows
  moments (line ∷ older) knows = (reached (line ∷ older) knows, moments older (λ some. known_before p line older (knows some)))

pub passes_reach : OnlyDirectoriesHaveNames → EntriesHaveCopies → ModelOneKind → QuietRoundsLeave → QuietRoundsConverge → QuietPassesReach
passes_reach only named kinds leave converge p log five clients short follows honest lawful replied low =
    moments p only named kinds log (λ some. record {
      sound = record { small = five; some = some; clients = clients; short = short; follows = follows; honest = honest; lawful = lawful; replied = replied };
      left = leave p log five clients short follows honest lawful replied low;
      converged = converge p log five clients short follows honest lawful replied low;
    })
