-- A text of a run by threads or a crawl that was cut off, and what a source that tells its bytes is answered with.
use Rattle.std.proofs.Common.{◌≡◌, ◌∙◌, ◌⊎◌, inl, inr, ◌<◌, ◌≤◌, ◌^◌, ℕ, true, List, [], ◌∷◌, Option, Some, codes, length, refl, sym, ap, subst, arith}
use Rattle.std.specs.Io.KnownBytes.{Appends}
use Rattle.std.specs.Prelude.{String, map, string_bytes}
use Rattle.std.specs.Global.{Global}
use Rattle.afr_text.specs.Parts.{AppendsFront}
use Rattle.afr_model.specs.Crawl.{CanCrawl}
use Rattle.afr_plan.specs.Spells.{Spells}
use Rattle.afr_plan.specs.declared.plan.Plan.{Plan}
use Rattle.afr_plan.specs.declared.plan.PlanFault.{PlanFault}
use Rattle.afr_plan_print.specs.PrintedPlan.{plan_text}
use Rattle.afr_plan_read.proofs.PlanLemmas.{same-plan}
use Rattle.afr_volume.specs.State.{State, no_volume}
use Rattle.afr_words.specs.Forms.{AreLive, AskLive}
use Rattle.afr_words.specs.declared.live.LiveForm.{LiveForm}
use Rattle.afr_words.specs.declared.live.LiveForm.TheVariants as live
use Rattle.afr_cli.specs.Crawl.{IsCrawlRefusal, crawl_refusal_line, crawls}
use Rattle.afr_cli.specs.Live.{HasRun, IsLiveText, ReportsLive, StopsLive, text_live}
use Rattle.afr_cli.specs.Statuses.{HasFault, IsRefusal, IsRefused, IsSpelled, refusal_line, usage_line}
use Rattle.afr_cli.proofs.ToldLemmas.{faulty_unspelled, refuses, runs, spelled_bytes}

module _ {S : Type 0} (words : List (String Global)) (left : S → Option (List ℕ)) (source source' : S) (taken taken' : Option (List ℕ)) (now : State) where
  pub live_stops_at_usage : (AreLive words → ⊥) → source' ≡ source → now ≡ no_volume → AppendsFront taken taken' usage_line → StopsLive words left source source' taken taken' now
  live_stops_at_usage other same none front = record { text = usage_line; known = IsLiveText.Usage other same none; front = front }

  pub live_stops_at_refusal : AreLive words → (fault : PlanFault) → IsRefused (left source) (left source') fault → now ≡ no_volume
      → AppendsFront taken taken' (refusal_line fault) → StopsLive words left source source' taken taken' now
  live_stops_at_refusal asked fault cause none front = record { text = refusal_line fault; known = IsLiveText.Refusal asked fault cause none; front = front }

-- a form's text was written of a plan that was run
pub reports_live : (words : List (String Global)) (form : LiveForm) (left left' taken taken' : Option (List ℕ)) (now : State)
    → AskLive words form → IsSpelled left left' now.plan → Appends taken taken' (text_live form now.plan now.log) → ReportsLive words left left' taken taken' now
reports_live words form left left' taken taken' now asked spelled text = record { form = form; asked = asked; spelled = spelled; text = text }

-- where a plan was run, the words ask for it
pub live_planned : (words : List (String Global)) (form : LiveForm) (left left' : Option (List ℕ)) (now : State)
    → AskLive words form → (now ≡ no_volume) ⊎ (IsSpelled left left' now.plan × (now.crawl ≡ crawls form)) → (now ≡ no_volume) ⊎ (AreLive words × IsSpelled left left' now.plan)
live_planned words form left left' now asked (inl none) = inl none
live_planned words form left left' now asked (inr h) = inr ((form, asked), h.0)

-- ---- one form
module _ (words : List (String Global)) where
  -- no word is two of them
  other_word : {A : Type 0} (s t : List ℕ) → (s ≡ t → ⊥) → map string_bytes words ≡ s ∷ [] → map string_bytes words ≡ t ∷ [] → A
  other_word s t apart asked again = let same : s ∷ [] ≡ t ∷ [] = sym asked ∙ again in absurd (apart (cc))

  pub one_form : (form other : LiveForm) → AskLive words form → AskLive words other → form ≡ other
  one_form live.Live live.Live asked again = refl
  one_form live.Live live.Crawl asked again = other_word (codes "live") (codes "crawl") (λ e. cc) asked again
  one_form live.Live live.Record asked again = other_word (codes "live") (codes "record") (λ e. cc) asked again
  one_form live.Crawl live.Live asked again = other_word (codes "crawl") (codes "live") (λ e. cc) asked again
  one_form live.Crawl live.Crawl asked again = refl
  one_form live.Crawl live.Record asked again = other_word (codes "crawl") (codes "record") (λ e. cc) asked again
  one_form live.Record live.Live asked again = other_word (codes "record") (codes "live") (λ e. cc) asked again
  one_form live.Record live.Crawl asked again = other_word (codes "record") (codes "crawl") (λ e. cc) asked again
  one_form live.Record live.Record asked again = refl

  pub crawls_as_asked : (form other : LiveForm) (left left' : Option (List ℕ)) (now : State) → AskLive words form → AskLive words other
      → (now ≡ no_volume) ⊎ (IsSpelled left left' now.plan × (now.crawl ≡ crawls form)) → (now ≡ no_volume) ⊎ (now.crawl ≡ crawls other)
  crawls_as_asked form other left left' now asked again (inl none) = inl none
  crawls_as_asked form other left left' now asked again (inr h) = inr (h.1 ∙ ap crawls (one_form form other asked again))

  -- a crawl of a plan that was run to its end
  pub can_as_asked : (form : LiveForm) (now : State) → AskLive words form → AskLive words live.Crawl → HasRun form now.plan now → CanCrawl now.plan
  can_as_asked form now asked again ran = ran.can (ap crawls (one_form form live.Crawl asked again))

-- a plan that is spelled in at most 16 MiB is printed in fewer bytes than a number of an image counts
pub printed_few : (left left' : Option (List ℕ)) (plan : Plan) → IsSpelled left left' plan → ((bytes : List ℕ) (p : Plan) → Spells bytes p → length (plan_text p) ≤ length bytes)
    → length (plan_text plan) < 2 ^ 32
printed_few left left' plan s short = let most = short s.bytes plan s.spells in omega (arith, most, s.read.few)

-- ---- a source that tells its bytes
last_or : (r : ℕ) → (r ≡ 0) ⊎ (r ≡ 3) ⊎ (r ≡ 4) ⊎ (r ≡ 5) ⊎ (r ≡ 6) ⊎ (r ≡ 7) ⊎ (r ≡ 8) → ((r ≡ 0) ⊎ (r ≡ 3) ⊎ (r ≡ 4) ⊎ (r ≡ 5) ⊎ (r ≡ 6) ⊎ (r ≡ 7)) ⊎ (r ≡ 8)
last_or r (inl e) = inl (inl e)
last_or r (inr (inl e)) = inl (inr (inl e))
last_or r (inr (inr (inl e))) = inl (inr (inr (inl e)))
last_or r (inr (inr (inr (inl e)))) = inl (inr (inr (inr (inl e))))
last_or r (inr (inr (inr (inr (inl e))))) = inl (inr (inr (inr (inr (inl e)))))
last_or r (inr (inr (inr (inr (inr (inl e)))))) = inl (inr (inr (inr (inr (inr e)))))
last_or r (inr (inr (inr (inr (inr (inr e)))))) = inr e

module _ (words : List (String Global)) (bytes : List ℕ) (left left' taken taken' : Option (List ℕ)) (status : ℕ) (plan : Plan) (told : left ≡ Some bytes) where
  one_plan : (one other : Plan) → Spells bytes other → IsSpelled left left' one → one ≡ other
  one_plan one other spells spelled = same-plan bytes one other (spelled_bytes bytes left' one (subst (λ (l : Option (List ℕ)). IsSpelled l left' one) told spelled)) spells

  -- a fault is refused, unless the sink failed or memory was wanting
  pub refuses_live : (fault : PlanFault) → HasFault bytes fault
      → (status ≡ 0) ⊎ (status ≡ 3) ⊎ (status ≡ 4) ⊎ (status ≡ 5) ⊎ (status ≡ 6) ⊎ (status ≡ 7) ⊎ (status ≡ 8)
      → (status ≡ 0 → IsSpelled left left' plan) → (status ≡ 3 → IsRefusal left left' taken taken') → (status ≡ 4 → ⊥) → (status ≡ 7 → IsSpelled left left' plan)
      → (status ≡ 8 → IsCrawlRefusal words left left' taken taken')
      → ((status ≡ 3) × Appends taken taken' (refusal_line fault)) ⊎ (status ≡ 5) ⊎ (status ≡ 6)
  refuses_live fault wrong few ok refused read unfinished healers = elim (last_or status few) [
    | inl six ↦ refuses bytes left left' taken taken' status plan told fault wrong six ok refused read unfinished
    | inr eight ↦ let r = healers eight in absurd (faulty_unspelled bytes left' fault r.plan wrong (subst (λ (l : Option (List ℕ)). IsSpelled l left' r.plan) told r.spelled))
  ]

  -- a plan that is spelled is run, unless the sink failed or memory was wanting; where it is to be crawled, it has to be one that can be
  pub runs_live : (other : Plan) → length bytes ≤ 16777216 → Spells bytes other → (AskLive words live.Crawl → CanCrawl other)
      → (status ≡ 0) ⊎ (status ≡ 3) ⊎ (status ≡ 4) ⊎ (status ≡ 5) ⊎ (status ≡ 6) ⊎ (status ≡ 7) ⊎ (status ≡ 8)
      → (status ≡ 3 → IsRefusal left left' taken taken') → (status ≡ 4 → ⊥) → (status ≡ 8 → IsCrawlRefusal words left left' taken taken')
      → (status ≡ 0) ⊎ (status ≡ 7) ⊎ (status ≡ 5) ⊎ (status ≡ 6)
  runs_live other short spells can few refused read healers = elim (last_or status few) [
    | inl six ↦ runs bytes left left' taken taken' status plan told other short spells six refused read
    | inr eight ↦ let r = healers eight in absurd (r.cause (subst CanCrawl (sym (one_plan r.plan other spells r.spelled)) (can r.asked)))
  ]

  -- one that can't be is refused, unless the sink failed or memory was wanting
  pub leaves_live : (other : Plan) → length bytes ≤ 16777216 → Spells bytes other → (CanCrawl other → ⊥)
      → (status ≡ 0) ⊎ (status ≡ 3) ⊎ (status ≡ 4) ⊎ (status ≡ 5) ⊎ (status ≡ 6) ⊎ (status ≡ 7) ⊎ (status ≡ 8)
      → (status ≡ 0 → IsSpelled left left' plan × CanCrawl plan) → (status ≡ 3 → IsRefusal left left' taken taken') → (status ≡ 4 → ⊥) → (status ≡ 7 → IsSpelled left left' plan × CanCrawl plan)
      → (status ≡ 8 → IsCrawlRefusal words left left' taken taken')
      → ((status ≡ 8) × Appends taken taken' crawl_refusal_line) ⊎ (status ≡ 5) ⊎ (status ≡ 6)
  leaves_live other short spells cannot few ok refused read unfinished healers = elim (last_or status few) [
    | inl six ↦ by (runs bytes left left' taken taken' status plan told other short spells six refused read)
    | inr eight ↦ inl (eight, (healers eight).line)
  ]
    where
      ran : {A : Type 0} → IsSpelled left left' plan × CanCrawl plan → A
      ran h = absurd (cannot (subst CanCrawl (one_plan plan other spells h.0) h.1))

      by : (status ≡ 0) ⊎ (status ≡ 7) ⊎ (status ≡ 5) ⊎ (status ≡ 6) → ((status ≡ 8) × Appends taken taken' crawl_refusal_line) ⊎ (status ≡ 5) ⊎ (status ≡ 6)
      by (inl zero) = ran (ok zero)
      by (inr (inl seven)) = ran (unfinished seven)
      by (inr (inr (inl five))) = inr (inl five)
      by (inr (inr (inr six))) = inr (inr six)
