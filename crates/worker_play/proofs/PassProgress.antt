-- Passes after some events.
use Rattle.std.proofs.Common.{◌≡◌, ℕ, Bool, true, cond, List, [], ◌∷◌, ◌++◌, length, map, refl, sym, ap, ap₂, subst, ◌∙◌, append_assoc, length-append, arith}
use Rattle.std.specs.Prelude.{◌==◌, Result, Ok, Err, IfOk, OnOk, OnErr}
use mathlib.Core.List.{IsPrefix}
use Rattle.std.proofs.lemmas.Bool.{eq-eqb}
use Rattle.std.proofs.lemmas.List.{append-nil, map-append, nil_from_length}
use Rattle.apcu_model.specs.declared.conf.Conf.{Conf}
use Rattle.apcu_model.specs.declared.request.Event.{Event}
use Rattle.apcu_model.specs.declared.request.Request.{Request}
use Rattle.apcu_model.specs.declared.request.Reply.{Reply}
use Rattle.apcu_model.specs.History.{stage_of, reply_in}
use Rattle.pin_table.specs.Values.{PassView}
use Rattle.pin_table.specs.Events.{event, events_of}
use Rattle.script_read.specs.Play.{Wish}
use Rattle.shared_cache.specs.Follows.{Follows}
use Rattle.play_laws.specs.Own.{own_replies, wish_in}
use Rattle.play_laws.specs.Parts.{events-append}
use Rattle.worker_play.specs.Goes.{wish, KnowsOwnEvents, GoesOn, Reaches, Tells}
use Rattle.worker_play.specs.Turns.{Turn, Takes, Over, wish_of_turn, wanted_in}
use Rattle.worker_play.proofs.Turns.{in_turn_none, in_turn_one, in_turn_more}

-- what a worker's replies are in longer histories
pub record OwnLaws : Type 0 where
  pub more : (conf : Conf) (w : ℕ) (history : List Event) (e : Event)
      → own_replies conf w (history ++ e ∷ []) ≡ own_replies conf w history ++ cond (e.worker == w) (reply_in (stage_of conf history) e ∷ []) []
  pub others : (conf : Conf) (w : ℕ) (history between : List Event) → events_of w between ≡ []
      → own_replies conf w (history ++ between) ≡ own_replies conf w history

pub none : (conf : Conf) (workers : ℕ) (p : PassView) → KnowsOwnEvents p → GoesOn conf workers p p [] []
none conf workers p whole = record {
  table = refl;
  worker = refl;
  left = omega arith;
  count = refl;
  own = sym (append-nil (map wish_in p.known.own));
  replies_are = sym (append-nil (own_replies conf p.known.worker p.known.seen));
  seen = ([], append-nil p.known.seen);
  all_own = whole;
  legal = λ h. h;
}

prefixes : {A : Type 0} (xs ys zs : List A) → IsPrefix xs ys → IsPrefix ys zs → IsPrefix xs zs
prefixes xs ys zs a b = (a.0 ++ b.0, sym (append_assoc xs a.0 b.0) ∙ (ap (λ (l : List _). l ++ b.0) a.1 ∙ b.1))

pub more : (conf : Conf) (workers : ℕ) (p o q : PassView) (ws vs : List Wish) (rs ss : List Reply) → GoesOn conf workers p o ws rs → GoesOn conf workers o q vs ss → GoesOn conf workers p q (ws ++ vs) (rs ++ ss)
more conf workers p o q ws vs rs ss a b = record {
  table = b.table ∙ a.table;
  worker = b.worker ∙ a.worker;
  left = omega (arith, a.left, b.left, length-append ws vs);
  count = omega (arith, a.count, b.count, length-append ws vs, length-append rs ss);
  own = b.own ∙ (ap (λ (l : List Wish). l ++ vs) a.own ∙ append_assoc (map wish_in p.known.own) ws vs);
  replies_are = b.replies_are ∙ (ap (λ (l : List Reply). l ++ ss) a.replies_are ∙ append_assoc (own_replies conf p.known.worker p.known.seen) rs ss);
  seen = prefixes p.known.seen o.known.seen q.known.seen a.seen b.seen;
  all_own = b.all_own;
  legal = λ h. b.legal (a.legal h);
}

-- others alone made events between a whole pass and the next event of its worker
none_between : (w : ℕ) (seen between : List Event) (own : List Event) (e : Event) → e.worker == w ≡ true → events_of w seen ≡ own → events_of w ((seen ++ between) ++ e ∷ []) ≡ own ++ e ∷ [] → events_of w between ≡ []
none_between w seen between own e mine whole all =
    let parts = events-append w (seen ++ between) (e ∷ []) ∙ ap (λ (l : List Event). l ++ events_of w (e ∷ [])) (events-append w seen between) in
    let last : events_of w (e ∷ []) ≡ e ∷ [] = ap (λ (b : Bool). cond b (e ∷ []) []) mine in
    let counted = ap length (sym all ∙ parts) in
    nil_from_length (events_of w between)
    (omega (arith, counted, ap length last, ap length whole, length-append own (e ∷ []), length-append (events_of w seen ++ events_of w between) (events_of w (e ∷ [])), length-append (events_of w seen) (events_of w between)))

-- one event of a pass
pub one : OwnLaws → (conf : Conf) (workers : ℕ) (p q : PassView) (t : ℕ) (r s : Request) (y : Reply) → Follows conf workers p q t r y → KnowsOwnEvents p → r ≡ s → GoesOn conf workers p q (wish t s ∷ []) (y ∷ [])
one laws conf workers p q t r s y f whole same =
    let e = event p.known.worker t r f.mask in
    let w = p.known.worker in
    let mine : e.worker == w ≡ true = eq-eqb w w refl in
    let whole_q : events_of w ((p.known.seen ++ f.between) ++ e ∷ []) ≡ p.known.own ++ e ∷ [] =
    sym (ap₂ events_of f.worker f.seen) ∙ (f.all_own ∙ f.own) in
    let none = none_between w p.known.seen f.between p.known.own e mine whole whole_q in
    let replies : own_replies conf w ((p.known.seen ++ f.between) ++ e ∷ []) ≡ own_replies conf w p.known.seen ++ y ∷ [] =
    laws.more conf w (p.known.seen ++ f.between) e
    ∙ ap₂ (λ (l k : List Reply). l ++ k) (laws.others conf w p.known.seen f.between none)
    (ap (λ (b : Bool). cond b (reply_in (stage_of conf (p.known.seen ++ f.between)) e ∷ []) []) mine ∙ ap (λ (x : Reply). x ∷ []) (sym f.reply)) in
    record {
      table = f.table;
      worker = f.worker;
      left = f.left;
      count = refl;
      own = ap (map wish_in) f.own ∙ (map-append wish_in p.known.own (e ∷ []) ∙ ap (λ (x : Request). map wish_in p.known.own ++ wish t x ∷ []) same);
      replies_are = ap₂ (own_replies conf) f.worker f.seen ∙ replies;
      seen = (f.between ++ e ∷ [], sym (append_assoc p.known.seen f.between (e ∷ [])) ∙ sym f.seen);
      all_own = f.all_own;
      legal = λ h. f.legal;
    }

-- ---- what is asked in turn

abbrev pub nothing_asked : (conf : Conf) (workers : ℕ) (p : PassView) (turns : List Reply → Turn) → KnowsOwnEvents p → Reaches conf workers p p turns
nothing_asked conf workers p turns whole = record { made = []; replies = []; in_turn = in_turn_none (wanted_in turns); goes = none conf workers p whole }

-- where memory is missing, nothing was asked
pub nothing_made : {X E : Type 0} (conf : Conf) (workers : ℕ) (p q : PassView) (turns : List Reply → Turn) (r : Result X E) (e : E) → r ≡ Err e → OnErr r (q ≡ p) → KnowsOwnEvents p
    → Reaches conf workers p q turns
nothing_made {X} {E} conf workers p q turns r e is same whole =
    let back : q ≡ p = subst (λ (r : Result X E). OnErr r (q ≡ p)) is same in
    subst (λ (o : PassView). Reaches conf workers p o turns) (sym back) (nothing_asked conf workers p turns whole)

-- the first wish was asked
abbrev pub one_asked : (conf : Conf) (workers : ℕ) (p q : PassView) (turns : List Reply → Turn) (w : Wish) (y : Reply) → GoesOn conf workers p q (w ∷ []) (y ∷ []) → turns [] ≡ Takes w → Reaches conf workers p q turns
one_asked conf workers p q turns w y g first = record { made = w ∷ []; replies = y ∷ []; in_turn = in_turn_one (wanted_in turns) w y (ap wish_of_turn first); goes = g }

-- some first wishes, and then others
abbrev pub more_asked : (conf : Conf) (workers : ℕ) (p o q : PassView) (turns rest : List Reply → Turn) (r : Reaches conf workers p o turns) → ((later : List Reply) → turns (r.replies ++ later) ≡ rest later)
    → Reaches conf workers o q rest → Reaches conf workers p q turns
more_asked conf workers p o q turns rest r goes s = record {
  made = r.made ++ s.made;
  replies = r.replies ++ s.replies;
  in_turn = in_turn_more (wanted_in turns) (wanted_in rest) r.made s.made r.replies s.replies r.in_turn s.in_turn (λ later. ap wish_of_turn (goes later));
  goes = more conf workers p o q r.made s.made r.replies s.replies r.goes s.goes;
}

pub on_ok : {X E P Q : Type 0} (r : Result X E) → (P → Q) → OnOk r P → OnOk r Q
on_ok (Ok x) f p = f p
on_ok (Err e) f p = tt

pub if_ok : {X E : Type 0} {P Q : X → Type 0} (r : Result X E) → ((x : X) → P x → Q x) → IfOk r P → IfOk r Q
if_ok (Ok x) f p = f x p
if_ok (Err e) f p = tt

pub of_if_ok : {X E : Type 0} (P : X → Type 0) (r : Result X E) (x : X) → r ≡ Ok x → IfOk r P → P x
of_if_ok {X} {E} P r x is p = subst (λ (r : Result X E). IfOk r P) is p

pub of_ok : {X E P : Type 0} (r : Result X E) (x : X) → r ≡ Ok x → OnOk r P → P
of_ok {X} {E} {P} r x is p = subst (λ (r : Result X E). OnOk r P) is p

-- ---- on the way through some turns

-- After the wishes so far the turns continue as these. The result of all replies is what is still
-- to come, after those so far.
abbrev pub Midway : {A : Type 0} → Conf → ℕ → PassView → PassView → (List Reply → Turn) → (List Reply → Turn) → (List Reply → A) → (List Reply → A) → Type 0
Midway conf workers p q turns rest told to_tell =
    (r : Reaches conf workers p q turns) × ((later : List Reply) → turns (r.replies ++ later) ≡ rest later)
    × ((later : List Reply) → told (r.replies ++ later) ≡ to_tell later)

pub begins : {A : Type 0} (conf : Conf) (workers : ℕ) (p : PassView) (turns : List Reply → Turn) (told : List Reply → A) → KnowsOwnEvents p → Midway conf workers p p turns turns told told
begins conf workers p turns told whole = (nothing_asked conf workers p turns whole, λ later. refl, λ later. refl)

pub goes_on : {A : Type 0} (conf : Conf) (workers : ℕ) (p o q : PassView) (turns rest after : List Reply → Turn) (told to_tell still : List Reply → A) → Midway conf workers p o turns rest told to_tell
    → (s : Reaches conf workers o q rest) → ((later : List Reply) → rest (s.replies ++ later) ≡ after later) → ((later : List Reply) → to_tell (s.replies ++ later) ≡ still later)
    → Midway conf workers p q turns after told still
goes_on conf workers p o q turns rest after told to_tell still m s goes next = (
  more_asked conf workers p o q turns rest m.0 m.1 s,
  λ later. ap turns (append_assoc m.0.replies s.replies later) ∙ (m.1 (s.replies ++ later) ∙ goes later),
  λ later. ap told (append_assoc m.0.replies s.replies later) ∙ (m.2 (s.replies ++ later) ∙ next later),
)

-- all was asked
pub ends : {A : Type 0} (conf : Conf) (workers : ℕ) (p q : PassView) (turns rest : List Reply → Turn) (told to_tell : List Reply → A) → Midway conf workers p q turns rest told to_tell → rest [] ≡ Over [] → Tells conf workers p q turns told (to_tell [])
ends conf workers p q turns rest told to_tell m over = record {
  asked = m.0;
  over = ap turns (sym (append-nil m.0.replies)) ∙ (m.1 [] ∙ over);
  is = sym (m.2 []) ∙ ap told (append-nil m.0.replies);
}
