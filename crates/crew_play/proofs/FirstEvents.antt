-- A worker that ended before any other had made an event: its events are the first ones.
use Rattle.std.proofs.Common.{◌≡◌, ℕ, suc, ◌⊎◌, inl, inr, Bool, true, false, cond, List, [], ◌∷◌, ◌++◌, length, slice_get, Some, refl, sym, ap, ◌∙◌, subst, arith, length-append}
use Rattle.std.specs.Prelude.{◌≢◌, ◌==◌, Option, None, IfSome, Result}
use Rattle.std.specs.List.{AllByRecursion}
use Rattle.std.proofs.lemmas.List.{nil_from_length, map-append}
use Rattle.std.proofs.lemmas.Option.{slice_get_within}
use Rattle.std.proofs.lemmas.Bool.{eqb-true, eq-eqb, false≢true, cases_Bool, cases_lt}
use Rattle.atomic_table.specs.Seated.{TableId}
use Rattle.apcu_model.specs.declared.conf.Conf.{Conf}
use Rattle.apcu_model.specs.declared.request.Event.{Event}
use Rattle.apcu_model.specs.declared.journal.Mark.{Mark}
use Rattle.apcu_model.specs.History.{mark_of, marks_of}
use Rattle.pin_table.specs.Values.{PassView}
use Rattle.pin_table.specs.Events.{events_of}
use Rattle.script_read.specs.declared.script.Step.{Step}
use Rattle.play_laws.specs.Parts.{events-append}
use Rattle.shared_cache.specs.declared.locked_cache.Closed.{Closed}
use Rattle.shared_cache.specs.ClosedCaches.{IsClosed}
use Rattle.shared_cache.specs.LearnedEnds.{Learns}
use Rattle.worker_play.specs.declared.script.PlayFault.{PlayFault}
use Rattle.crew_play.specs.Crew.{AllEnd, EndsBefore, LastEndsFirst}
use Rattle.crew_play.specs.PlayedScripts.{ComeFirst}
use Rattle.crew_play.proofs.Crews.{get_more}
use Rattle.crew_play.proofs.EndedCrews.{get_some, none_else}
use Rattle.crew_play.proofs.LearnedEnds.{none_besides}

-- ---- a worker without an event

head_none : (w : ℕ) (e : Event) (es : List Event) → events_of w (e ∷ es) ≡ [] → e.worker ≡ w → ⊥
head_none w e es none same = go (e.worker == w) (eq-eqb e.worker w same) none
  where
    go : (b : Bool) → b ≡ true → cond b (e ∷ events_of w es) (events_of w es) ≡ [] → ⊥
    go true is h = absurd (cc (h))
    go false is h = false≢true is

tail_none : (w : ℕ) (e : Event) (es : List Event) → events_of w (e ∷ es) ≡ [] → events_of w es ≡ []
tail_none w e es none = go (e.worker == w) none
  where
    go : (b : Bool) → cond b (e ∷ events_of w es) (events_of w es) ≡ [] → events_of w es ≡ []
    go true h = absurd (cc (h))
    go false h = h

-- it has none in a first part either
part_none : (w : ℕ) (seen rest history : List Event) → seen ++ rest ≡ history → events_of w history ≡ [] → events_of w seen ≡ []
part_none w seen rest history parts none =
    let split : events_of w history ≡ events_of w seen ++ events_of w rest = ap (events_of w) (sym parts) ∙ events-append w seen rest in
    nil_from_length (events_of w seen) (omega (arith, ap length split, ap length none, length-append (events_of w seen) (events_of w rest)))

-- no mark is its mark
none_marked : (w : ℕ) (es : List Event) → events_of w es ≡ [] → AllByRecursion (λ (m : Mark). m.worker ≢ w) (marks_of es)
none_marked w [] none = tt
none_marked w (e ∷ es) none = (head_none w e es none, none_marked w es (tail_none w e es none))

-- where no other worker has an event, each is this one's
one_marked : (w : ℕ) (es : List Event) → ((v : ℕ) → v ≢ w → events_of v es ≡ []) → AllByRecursion (λ (m : Mark). m.worker ≡ w) (marks_of es)
one_marked w [] none = tt
one_marked w (e ∷ es) none = (whose (cases_Bool (e.worker == w)), one_marked w es (λ v other. tail_none v e es (none v other)))
  where
    whose : (e.worker == w ≡ true) ⊎ (e.worker == w ≡ false) → e.worker ≡ w
    whose (inl is) = eqb-true e.worker w is
    whose (inr off) = absurd (head_none e.worker e es (none e.worker (λ same. false≢true (sym off ∙ eq-eqb e.worker w same))) refl)

-- ---- one that learns of the end

-- if it has made no event, none of its events came before that end
pub none_before : (conf : Conf) (workers : ℕ) (p q e : PassView) → Learns conf workers p q e → p.known.own ≡ [] → events_of p.known.worker e.known.seen ≡ []
none_before conf workers p q e l none =
    let own : events_of q.known.worker q.known.seen ≡ [] = l.all_own ∙ (l.own ∙ none) in
    let its : events_of p.known.worker q.known.seen ≡ [] = ap (λ v. events_of v q.known.seen) (sym l.worker) ∙ own in
    part_none p.known.worker e.known.seen l.other.0 q.known.seen l.other.1 its

-- and so it is of one worker more
ends_before_more : (n count : ℕ) (b : PassView) → suc n ≡ count → EndsBefore n b → events_of n b.known.seen ≡ [] → EndsBefore count b
ends_before_more n count b is before one w few = elim (cases_lt w n) [
  | inl less ↦ before w less
  | inr past ↦
      let here : n ≡ w = omega (arith, is, few, past) in
      subst (λ v. events_of v b.known.seen ≡ []) here one
]

-- if there is one
pub some_before_none : (count : ℕ) (first : Option PassView) → count ≡ 0 → IfSome first (λ (e : PassView). EndsBefore count e)
some_before_none count None is = tt
some_before_none count (Some b) is = λ w few. absurd (omega (arith, few, is))

pub some_before_more : (n count : ℕ) (first : Option PassView) → suc n ≡ count → IfSome first (λ (e : PassView). EndsBefore n e) → IfSome first (λ (e : PassView). events_of n e.known.seen ≡ []) → IfSome first (λ (e : PassView). EndsBefore count e)
some_before_more n count None is before one = tt
some_before_more n count (Some b) is before one = ends_before_more n count b is before one

-- if it is the last one
pub last_ends_first : (n count : ℕ) (front ended : List PassView) (e : PassView) → suc n ≡ count → length front ≡ n → ended ≡ front ++ e ∷ [] → EndsBefore n e → LastEndsFirst count ended
last_ends_first n count front ended e is long more before k b here there = elim (get_more front e k b (subst (λ (l : List PassView). slice_get l k ≡ Some b) more there)) [
  | inl among ↦ absurd (omega (arith, is, long, here, slice_get_within front k b among))
  | inr (at, same) ↦
      let place : n ≡ k = omega (arith, is, here) in
      subst (λ m. EndsBefore m b) place (subst (λ (v : PassView). EndsBefore n v) same before)
]

-- ---- all have ended

pub come_first : (t : TableId) (conf : Conf) (workers : ℕ) (scripts : List (List Step)) (ended : List PassView) (texts : List (Result (List ℕ) PlayFault)) (closed : Closed) (n : ℕ) → suc n ≡ length scripts
    → AllEnd t conf scripts (length scripts) ended texts → LastEndsFirst (length scripts) ended → IsClosed conf workers ended closed → ComeFirst n closed.journal.marks
come_first t conf workers scripts ended texts closed n last all first c =
    let s = get_some scripts n (omega (arith, last)) in
    let b = get_some ended n (omega (arith, last, all.have_ended)) in
    let x = get_some texts n (omega (arith, last, all.have_texts)) in
    let e = all.each n s.0 b.0 x.0 s.1 b.1 x.1 in
    let seen = b.0.known.seen in
    let prefix = c.seen n b.0 b.1 in
    let own : events_of n seen ≡ b.0.known.own = ap (λ v. events_of v seen) (sym e.ended.worker) ∙ e.ended.all_own in
    let whole : events_of n c.history ≡ b.0.known.own = ap (λ v. events_of v c.history) (sym e.ended.worker) ∙ c.own n b.0 b.1 in
    record {
      own = marks_of seen;
      others = marks_of prefix.0;
      journal_is = c.journal ∙ (ap marks_of (sym prefix.1) ∙ map-append mark_of seen prefix.0);
      all_own = one_marked n seen (λ w other. elim (cases_lt w n) [
        | inl less ↦ first n b.0 last b.1 w less
        | inr past ↦ elim (cases_lt w (length scripts)) [
          | inl few ↦ absurd (other (omega (arith, last, past, few)))
          | inr beyond ↦ part_none w seen prefix.0 c.history prefix.1 (c.others w (none_else t conf scripts ended texts all w beyond))
        ]
      ]);
      none_later = none_marked n prefix.0 (none_besides n seen c.history prefix.0 prefix.1 (ap length (whole ∙ sym own)));
    }
