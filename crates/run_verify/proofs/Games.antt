-- One mark more of a game.
use Rattle.std.proofs.Common.{◌≡◌, ◌≢◌, inl, inr, ℕ, zero, suc, ◌<◌, ◌≤◌, Bool, true, false, cond, List, [], ◌∷◌, ◌++◌, length, Option, Some, None, refl, ap, sym, ◌∙◌, subst, arith}
use Rattle.std.specs.Prelude.{slice_get, slice_set, unwrap_or}
use Rattle.std.specs.Option.{option_and_then}
use Rattle.std.proofs.lemmas.Bool.{cases_eq}
use Rattle.std.proofs.lemmas.List.{length-set}
use Rattle.std.proofs.lemmas.Option.{slice_get_past, slice_get_within}
use Rattle.apcu_model.specs.declared.conf.Conf.{Conf}
use Rattle.apcu_model.specs.declared.journal.Mark.{Mark}
use Rattle.apcu_model.specs.declared.request.Reply.{Reply}
use Rattle.apcu_model.specs.History.{Stage, is_legal_mask, reply_in, after_event}
use Rattle.script_read.specs.declared.script.Step.{Step}
use Rattle.script_read.specs.Play.{Play, Wish, marked, wanted, wish_of, after_wish, replies_of, event_of}
use Rattle.mark_play.specs.ReplayStages.{Replayed}
use Rattle.run_verify.specs.declared.seat.Seat.{Seat}
use Rattle.run_verify.specs.Seats.{IsSeat}
use Rattle.run_verify.specs.Marks.{IsMade}
use Rattle.run_verify.specs.Games.{Game, IsGame, game_after}

set_here : {X : Type 0} (l : List X) (i : ℕ) (x : X) → i < length l → slice_get (slice_set l i x) i ≡ Some x
set_here [] i x h = absurd (omega (arith, h))
set_here (y ∷ ys) zero x h = refl
set_here (y ∷ ys) (suc i) x h = set_here ys i x (omega (arith, h))

set_there : {X : Type 0} (l : List X) (i j : ℕ) (x : X) → j ≢ i → slice_get (slice_set l i x) j ≡ slice_get l j
set_there [] i j x ne = refl
set_there (y ∷ ys) zero zero x ne = absurd (ne refl)
set_there (y ∷ ys) zero (suc j) x ne = refl
set_there (y ∷ ys) (suc i) zero x ne = refl
set_there (y ∷ ys) (suc i) (suc j) x ne = set_there ys i j x (λ e. ne (ap suc e))

-- a mark that cannot be played
pub no_worker : (conf : Conf) (scripts : List (List Step)) (p : Play) (mark : Mark) → length scripts ≤ mark.worker → marked conf scripts p mark ≡ None
no_worker conf scripts p mark past = go (is_legal_mask (length scripts) mark.worker p.stage mark.mask)
  where
    none : wish_of conf scripts p mark.worker ≡ None
    none = ap (option_and_then (λ script. wanted conf script (replies_of p mark.worker))) (slice_get_past scripts mark.worker past)

    go : (b : Bool) → cond b (option_and_then (λ wish. Some (after_wish p mark wish)) (wish_of conf scripts p mark.worker)) None ≡ None
    go true = ap (option_and_then (λ wish. Some (after_wish p mark wish))) none
    go false = refl

pub not_legal : (conf : Conf) (scripts : List (List Step)) (p : Play) (mark : Mark) → is_legal_mask (length scripts) mark.worker p.stage mark.mask ≡ false → marked conf scripts p mark ≡ None
not_legal conf scripts p mark illegal = ap (λ b. cond b (option_and_then (λ wish. Some (after_wish p mark wish)) (wish_of conf scripts p mark.worker)) None) illegal

pub wanting : (conf : Conf) (scripts : List (List Step)) (p : Play) (mark : Mark) (script : List Step) (o : Option Wish) → is_legal_mask (length scripts) mark.worker p.stage mark.mask ≡ true
    → slice_get scripts mark.worker ≡ Some script → wanted conf script (replies_of p mark.worker) ≡ o → marked conf scripts p mark ≡ option_and_then (λ wish. Some (after_wish p mark wish)) o
wanting conf scripts p mark script o legal here wants =
    ap (λ b. cond b (option_and_then (λ wish. Some (after_wish p mark wish)) (wish_of conf scripts p mark.worker)) None) legal
    ∙ ap (option_and_then (λ wish. Some (after_wish p mark wish))) (ap (option_and_then (λ script. wanted conf script (replies_of p mark.worker))) here ∙ wants)

-- as the replay found it
pub legal_same : (workers count : ℕ) (mark : Mark) (here there : Stage) (found b : Bool) → count ≡ workers → there ≡ here → found ≡ is_legal_mask count mark.worker there mark.mask → found ≡ b
    → is_legal_mask workers mark.worker here mark.mask ≡ b
legal_same workers count mark here there found b many at is told =
    ap (λ n. is_legal_mask n mark.worker here mark.mask) (sym many) ∙ (ap (λ (s : Stage). is_legal_mask count mark.worker s mark.mask) (sym at) ∙ (sym is ∙ told))

-- the game after one that was
module _ (conf : Conf) (scripts : List (List Step)) (old new : Replayed) (seats : List Seat) (seat : Seat) (g : Game) (mark : Mark) (script : List Step)
    (at : IsGame conf scripts old seats g) (here : slice_get scripts mark.worker ≡ Some script)
    (legal : is_legal_mask (length scripts) mark.worker g.play.stage mark.mask ≡ true) (m : IsMade conf script (replies_of g.play mark.worker) old new seat mark) where
  p : Play
  p = after_wish g.play mark m.wish

  pub marked_is : marked conf scripts g.play mark ≡ Some (after_wish g.play mark m.wish)
  marked_is = wanting conf scripts g.play mark script (Some m.wish) legal here m.wants

  play_is : (game_after g mark).play ≡ after_wish g.play mark m.wish
  play_is = ap (λ (o : Option Play). unwrap_or o g.play)
      (ap (λ (c : Conf). marked c g.scripts g.play mark) at.conf_is ∙ (ap (λ (s : List (List Step)). marked conf s g.play mark) at.scripts_are ∙ marked_is))

  pub marked_after : Some (game_after g mark).play ≡ marked conf scripts g.play mark
  marked_after = ap Some play_is ∙ sym marked_is

  stage : new.stage ≡ (after_wish g.play mark m.wish).stage
  stage = m.stage ∙ ap (λ (s : Stage). after_event s (event_of mark m.wish)) at.stage

  low : mark.worker < length scripts
  low = slice_get_within scripts mark.worker script here

  mine : replies_of (after_wish g.play mark m.wish) mark.worker ≡ replies_of g.play mark.worker ++ reply_in old.stage (event_of mark m.wish) ∷ []
  mine = ap (λ (o : Option (List Reply)). unwrap_or o []) (set_here g.play.replies mark.worker (replies_of g.play mark.worker ++ reply_in g.play.stage (event_of mark m.wish) ∷ []) (omega (arith, low, at.replies)))
      ∙ ap (λ (s : Stage). replies_of g.play mark.worker ++ reply_in s (event_of mark m.wish) ∷ []) (sym at.stage)

  others : (v : ℕ) → v ≢ mark.worker → replies_of (after_wish g.play mark m.wish) v ≡ replies_of g.play v
  others v ne = ap (λ (o : Option (List Reply)). unwrap_or o []) (set_there g.play.replies mark.worker v (replies_of g.play mark.worker ++ reply_in g.play.stage (event_of mark m.wish) ∷ []) ne)

  pub game_on : IsGame conf scripts new (slice_set seats mark.worker seat) (game_after g mark)
  game_on = record {
    conf_is = at.conf_is;
    scripts_are = at.scripts_are;
    stage = stage ∙ ap (λ (q : Play). q.stage) (sym play_is);
    shape = ap (λ (q : Play). q.stage.cache.conf) play_is ∙ (ap (λ (s : Stage). s.cache.conf) (sym stage) ∙ (m.shape ∙ (ap (λ (s : Stage). s.cache.conf) at.stage ∙ at.shape)));
    many = length-set seats mark.worker seat ∙ at.many;
    replies = ap (λ (q : Play). length q.replies) play_is ∙ (length-set g.play.replies mark.worker (replies_of g.play mark.worker ++ reply_in g.play.stage (event_of mark m.wish) ∷ []) ∙ at.replies);
    seated = λ v s x is there. subst (λ (q : Play). IsSeat conf s (replies_of q v) x) (sym play_is) (elim (cases_eq v mark.worker) [
      | inl e ↦
          let same : s ≡ script = let q : Some s ≡ Some script = sym is ∙ (ap (slice_get scripts) e ∙ here) in cc q in
          let own : x ≡ seat = let q : Some x ≡ Some seat = sym there ∙ (ap (slice_get (slice_set seats mark.worker seat)) e ∙ set_here seats mark.worker seat (omega (arith, low, at.many))) in cc q in
          subst (λ (y : Seat). IsSeat conf s (replies_of (after_wish g.play mark m.wish) v) y) (sym own)
          (subst (λ (z : List Step). IsSeat conf z (replies_of (after_wish g.play mark m.wish) v) seat) (sym same)
          (subst (λ (l : List Reply). IsSeat conf script l seat) (sym (ap (replies_of (after_wish g.play mark m.wish)) e ∙ mine)) m.seat_is))
      | inr ne ↦ subst (λ (l : List Reply). IsSeat conf s l x) (sym (others v ne)) (at.seated v s x is (sym (set_there seats mark.worker v seat ne) ∙ there))
    ]);
  }
