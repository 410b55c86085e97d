-- A play in which the loader alone makes events, mark by mark.
use Rattle.std.proofs.Common.{◌≡◌, ℕ, zero, suc, ◌+◌, ◌-◌, ◌≤◌, Bool, true, false, not, if◌then◌else◌, List, [], ◌∷◌, ◌++◌, length, map, filter, Option, Some, None, slice_get, append_assoc, refl, sym, ap, ap₂, ◌∙◌, subst, arith}
use Rattle.std.specs.Prelude.{◌==◌, ◌&&◌, slice_set, unwrap_or}
use Rattle.std.specs.List.{AllByRecursion, list_any}
use Rattle.std.specs.Option.{option_and_then, option_map}
use Rattle.std.proofs.lemmas.List.{append-nil, map-append}
use Rattle.std.proofs.lemmas.List.Sums.{sum_by-append, sum_by-cons}
use Rattle.std.proofs.lemmas.Option.{slice_get-map}
use Rattle.seg_words.specs.Members.{filter_none}
use Rattle.php_graph.specs.Size.{block_size}
use Rattle.apcu_model.specs.declared.conf.Conf.{Conf}
use Rattle.apcu_model.specs.declared.journal.Mark.{Mark}
use Rattle.apcu_model.specs.declared.request.Request.TheVariants as requests
use Rattle.apcu_model.specs.declared.request.Reply.{Reply}
use Rattle.apcu_model.specs.declared.request.Reply.TheVariants.{Flag, Ended}
use Rattle.apcu_model.specs.Cache.{Row}
use Rattle.apcu_model.specs.Change.{inserted}
use Rattle.apcu_model.specs.Conf.{IsGood, room_of, usable_of}
use Rattle.apcu_model.specs.History.{Stage, held_places, is_copied, is_in_mask, is_legal_mask, reply_in}
use Rattle.apcu_model.specs.Sequential.{is_stored}
use Rattle.script_read.specs.declared.script.Step.{Step}
use Rattle.script_read.specs.Play.{Wish, Play, wanted, replies_of, wish_of, script_of, event_of, after_wish, marked, played_from, played, nothing_played}
use Rattle.preload_set.specs.Bundle.{Record}
use Rattle.preload_set.specs.Loader.{loader_of, record_words, IsLoaded, IsPlayedFirst}
use Rattle.preload_set.proofs.StoredRecords.{IsOne, Filled, IsStored, filled_first, record_stored}

-- ---- what the loader wants

abbrev yes : Record → Reply
yes r = Flag true

abbrev wish_to_store : Record → Wish
wish_to_store r = record { request = requests.Store r.0 r.1 0 false; t = 0 }

abbrev wish_to_end : Wish
wish_to_end = record { request = requests.Retire; t = 0 }

wants_next : (conf : Conf) (done : List Record) (r : Record) (rest : List Record) → wanted conf (loader_of (done ++ r ∷ rest)) (map yes done) ≡ Some (wish_to_store r)
wants_next conf [] r rest = refl
wants_next conf (x ∷ done) r rest = wants_next conf done r rest

wants_end : (conf : Conf) (done : List Record) → wanted conf (loader_of done) (map yes done) ≡ Some wish_to_end
wants_end conf [] = refl
wants_end conf (x ∷ done) = wants_end conf done

-- ---- no worker copies

none_held : (m : Stage) (mask : ℕ) → m.windows ≡ [] → held_places m mask ≡ []
none_held m mask none =
    ap (λ (l : List Row). map (λ (row : Row). row.place) l)
    (filter_none (λ (row : Row). is_copied mask m row.number) (m.cache.rows ++ m.cache.removed)
    (λ row h. ap (λ (ws : List (ℕ × ℕ)). list_any (λ w. is_in_mask mask w.0 && w.1 == row.number) ws) none))

-- ---- mark by mark

record Going (conf : Conf) (worker : ℕ) (done : List Record) (p : Play) : Type 0 where
  pub filled : Filled conf done p.stage.cache
  pub windows : p.stage.windows ≡ []
  pub replies : slice_get p.replies worker ≡ Some (map yes done)

get_set : {A : Type 0} (xs : List A) (k : ℕ) (x y : A) → slice_get xs k ≡ Some x → slice_get (slice_set xs k y) k ≡ Some y
get_set [] k x y there = absurd (cc there)
get_set (z ∷ xs) zero x y there = refl
get_set (z ∷ xs) (suc k) x y there = get_set xs k x y there

-- a mark that can be played is of a wish
some_wish : (conf : Conf) (scripts : List (List Step)) (p q : Play) (mark : Mark) (wish : Wish) → wish_of conf scripts p mark.worker ≡ Some wish → marked conf scripts p mark ≡ Some q → after_wish p mark wish ≡ q
some_wish conf scripts p q mark wish wants is = by_mask (is_legal_mask (length scripts) mark.worker p.stage mark.mask) is
  where
    made : Option Play
    made = option_and_then (λ wish. Some (after_wish p mark wish)) (wish_of conf scripts p mark.worker)

    by_mask : (b : Bool) → (if b then made else None) ≡ Some q → after_wish p mark wish ≡ q
    by_mask true e = let w : Some (after_wish p mark wish) ≡ Some q = sym (ap (option_and_then (λ wish. Some (after_wish p mark wish))) wants) ∙ e in cc w
    by_mask false e = absurd (cc e)

-- the worker's own replies
own_replies : (conf : Conf) (worker : ℕ) (done : List Record) (p : Play) → Going conf worker done p → replies_of p worker ≡ map yes done
own_replies conf worker done p going = ap (λ (o : Option (List Reply)). unwrap_or o []) going.replies

wish_is : (conf : Conf) (scripts : List (List Step)) (worker : ℕ) (done records : List Record) (p : Play) (wish : Wish) → script_of scripts worker ≡ Some (loader_of records) → Going conf worker done p → wanted conf (loader_of records) (map yes done) ≡ Some wish
    → wish_of conf scripts p worker ≡ Some wish
wish_is conf scripts worker done records p wish script going wants =
    ap (λ (o : Option (List Step)). option_and_then (λ own. wanted conf own (replies_of p worker)) o) script
    ∙ (ap (wanted conf (loader_of records)) (own_replies conf worker done p going) ∙ wants)

store_goes : (conf : Conf) (mark : Mark) (done : List Record) (r : Record) (p : Play) → IsOne conf → conf.slots + record_words done + block_size (length r.0) r.1 ≤ conf.words → Going conf mark.worker done p → Going conf mark.worker (done ++ r ∷ []) (after_wish p mark (wish_to_store r))
store_goes conf mark done r p one room going = record {
  filled = subst (λ (held : List ℕ). Filled conf (done ++ r ∷ []) (inserted held r.0 r.1 0 false 0 p.stage.cache).cache) (sym none) stored.filled;
  windows = ap (λ (ws : List (ℕ × ℕ)). filter (λ w. not (w.0 == mark.worker)) ws) going.windows;
  replies = get_set p.replies mark.worker (map yes done) (replies_of p mark.worker ++ reply_in p.stage (event_of mark (wish_to_store r)) ∷ []) going.replies ∙ ap (λ (l : List Reply). Some l) answered;
}
  where
    none : held_places p.stage mark.mask ≡ []
    none = none_held p.stage mark.mask going.windows

    stored : IsStored conf done r (inserted [] r.0 r.1 0 false 0 p.stage.cache)
    stored = record_stored conf done r p.stage.cache one room going.filled

    reply : reply_in p.stage (event_of mark (wish_to_store r)) ≡ Flag true
    reply = ap (λ (held : List ℕ). Flag (is_stored (inserted held r.0 r.1 0 false 0 p.stage.cache).answer)) none ∙ ap (λ a. Flag (is_stored a)) stored.answer

    answered : replies_of p mark.worker ++ reply_in p.stage (event_of mark (wish_to_store r)) ∷ [] ≡ map yes (done ++ r ∷ [])
    answered = ap₂ (λ (l : List Reply) (x : Reply). l ++ x ∷ []) (own_replies conf mark.worker done p going) reply ∙ sym (map-append yes done (r ∷ []))

loader_ends : (conf : Conf) (mark : Mark) (done : List Record) (p : Play) → Going conf mark.worker done p → IsLoaded mark.worker done (after_wish p mark wish_to_end)
loader_ends conf mark done p going = record {
  replies = ap (λ (o : Option (List Reply)). unwrap_or o []) (get_set p.replies mark.worker (map yes done) (replies_of p mark.worker ++ Ended ∷ []) going.replies) ∙ ap (λ (l : List Reply). l ++ Ended ∷ []) (own_replies conf mark.worker done p going);
  expunges = going.filled.expunges;
  values = going.filled.values;
}

then_some : {A B : Type 0} (f : A → Option B) (o : Option A) (y : B) → option_and_then f o ≡ Some y → (x : A) × (o ≡ Some x) × (f x ≡ Some y)
then_some f (Some x) y e = (x, refl, e)
then_some f None y e = absurd cc

abbrev AllBy : ℕ → List Mark → Type 0
AllBy worker marks = AllByRecursion (λ (mark : Mark). mark.worker ≡ worker) marks

goes_on : (conf : Conf) (scripts : List (List Step)) (worker : ℕ) (done rest : List Record) (marks : List Mark) (p q : Play) → IsOne conf → conf.slots + record_words (done ++ rest) ≤ conf.words → script_of scripts worker ≡ Some (loader_of (done ++ rest))
    → AllBy worker marks → length marks ≡ length rest + 1 → Going conf worker done p → played_from conf scripts p marks ≡ Some q → IsLoaded worker (done ++ rest) q
goes_on conf scripts worker done rest [] p q one room script own count going is = absurd (omega (arith, count))
goes_on conf scripts worker done [] (mark ∷ []) p q one room script own count going is =
    let a = then_some (λ (x : Play). played_from conf scripts x []) (marked conf scripts p mark) q is in
    let last : Some a.0 ≡ Some q = a.2 in
    let same : a.0 ≡ q = cc last in
    let whole : done ++ [] ≡ done = append-nil done in
    let by : mark.worker ≡ worker = own.0 in
    let wish = wish_is conf scripts worker done (done ++ []) p wish_to_end script going (ap (λ (l : List Record). wanted conf (loader_of l) (map yes done)) whole ∙ wants_end conf done) in
    let after = some_wish conf scripts p a.0 mark wish_to_end (ap (wish_of conf scripts p) by ∙ wish) a.1 in
    subst (λ (l : List Record). IsLoaded worker l q) (sym whole)
    (subst (λ (x : Play). IsLoaded worker done x) (after ∙ same)
    (subst (λ (w : ℕ). IsLoaded w done (after_wish p mark wish_to_end)) by (loader_ends conf mark done p (subst (λ (w : ℕ). Going conf w done p) (sym by) going))))
goes_on conf scripts worker done [] (mark ∷ next ∷ marks) p q one room script own count going is = absurd (omega (arith, count))
goes_on conf scripts worker done (r ∷ rest) (mark ∷ marks) p q one room script own count going is =
    let a = then_some (λ (x : Play). played_from conf scripts x marks) (marked conf scripts p mark) q is in
    let whole : (done ++ r ∷ []) ++ rest ≡ done ++ r ∷ rest = append_assoc done (r ∷ []) rest in
    let by : mark.worker ≡ worker = own.0 in
    let wish = wish_is conf scripts worker done (done ++ r ∷ rest) p (wish_to_store r) script going (wants_next conf done r rest) in
    let after = some_wish conf scripts p a.0 mark (wish_to_store r) (ap (wish_of conf scripts p) by ∙ wish) a.1 in
    let size = λ (x : Record). block_size (length x.0) x.1 in
    let fits : conf.slots + record_words done + block_size (length r.0) r.1 ≤ conf.words = omega (arith, room, sum_by-append size done (r ∷ rest), sum_by-cons size r rest) in
    let next : Going conf worker (done ++ r ∷ []) a.0 =
    subst (λ (x : Play). Going conf worker (done ++ r ∷ []) x) after
    (subst (λ (w : ℕ). Going conf w (done ++ r ∷ []) (after_wish p mark (wish_to_store r))) by (store_goes conf mark done r p one fits (subst (λ (w : ℕ). Going conf w done p) (sym by) going))) in
    subst (λ (l : List Record). IsLoaded worker l q) whole
    (goes_on conf scripts worker (done ++ r ∷ []) rest marks a.0 q one (subst (λ (l : List Record). conf.slots + record_words l ≤ conf.words) (sym whole) room) (script ∙ ap (λ (l : List Record). Some (loader_of l)) (sym whole)) own.1 (omega (arith, count)) next a.2)

begins : (conf : Conf) (scripts : List (List Step)) (worker : ℕ) (script : List Step) → script_of scripts worker ≡ Some script → Going conf worker [] (nothing_played conf scripts)
begins conf scripts worker script there = record {
  filled = filled_first conf;
  windows = refl;
  replies = slice_get-map (λ (s : List Step). []) scripts worker ∙ ap (option_map (λ (s : List Step). [])) there;
}

bundle_loads : (conf : Conf) (scripts : List (List Step)) (worker : ℕ) (records : List Record) (marks : List Mark) (q : Play) → IsGood conf → conf.segments ≡ 1 → record_words records ≤ conf.words - conf.slots → script_of scripts worker ≡ Some (loader_of records)
    → AllBy worker marks → length marks ≡ length records + 1 → played conf scripts marks ≡ Some q → IsLoaded worker records q
bundle_loads conf scripts worker records marks q good one room script own count is =
    goes_on conf scripts worker [] records marks (nothing_played conf scripts) q (record { even = good.slots_even; one = one }) (omega (arith, room, room_of (usable_of good))) script own count (begins conf scripts worker (loader_of records) script) is

-- what comes first can be played alone
played_front : (conf : Conf) (scripts : List (List Step)) (p : Play) (own others : List Mark) (q : Play) → played_from conf scripts p (own ++ others) ≡ Some q → (m : Play) × (played_from conf scripts p own ≡ Some m)
played_front conf scripts p [] others q is = (p, refl)
played_front conf scripts p (mark ∷ own) others q is =
    let a = then_some (λ (x : Play). played_from conf scripts x (own ++ others)) (marked conf scripts p mark) q is in
    let b = played_front conf scripts a.0 own others q a.2 in
    (b.0, ap (λ (o : Option Play). option_and_then (λ (x : Play). played_from conf scripts x own) o) a.1 ∙ b.1)

pub bundle_comes_first : (conf : Conf) (scripts : List (List Step)) (worker : ℕ) (records : List Record) (own others : List Mark) (q : Play) → IsGood conf → conf.segments ≡ 1 → record_words records ≤ conf.words - conf.slots → script_of scripts worker ≡ Some (loader_of records)
    → AllBy worker own → length own ≡ length records + 1 → played conf scripts (own ++ others) ≡ Some q → IsPlayedFirst conf scripts worker records own
bundle_comes_first conf scripts worker records own others q good one room script by count is =
    let m = played_front conf scripts (nothing_played conf scripts) own others q is in
    record { play = m.0; plays = m.1; loaded = bundle_loads conf scripts worker records own m.0 good one room script by count m.1 }
