-- What a builder knows of keys, and all that it keeps, after a value.
use Rattle.std.proofs.Common.{◌≡◌, ◌⊎◌, ℕ, suc, ◌+◌, ◌-◌, ◌<◌, ◌≤◌, Bool, true, false, cond, List, [], ◌∷◌, ◌++◌, length, map, reverse, get_or, set, Option, Some, None, refl, sym, ap, subst, ◌∙◌, arith, length-append, inl, inr}
use Rattle.std.specs.Prelude.{nat_le, Result, Ok, Err, OnOk, OnErr}
use Rattle.std.specs.List.{AllByRecursion}
use Rattle.std.specs.Option.{option_to_list}
use Rattle.std.proofs.lemmas.Bool.Decides.{nat_tests}
use Rattle.std.proofs.lemmas.List.{length-set, append-nil, reverse-append, reverse-reverse}
use Rattle.std.proofs.lemmas.Option.{slice_get_read}
use Rattle.php_graph.proofs.InnermostContainers.{last_first}
use Rattle.php_graph.specs.declared.container.Container.{Container}
use Rattle.php_graph.specs.declared.key.Key.{Key}
use Rattle.php_graph.specs.declared.child.Child.{Child}
use Rattle.php_graph.specs.declared.child.Child.TheVariants.{Own, Back}
use Rattle.php_graph.specs.declared.kind.Kind.{Kind}
use Rattle.php_graph.specs.declared.kind.Kind.TheVariants as kinds
use Rattle.php_graph.specs.declared.item.Wants.TheVariants.{Value, ArrayKey, Name}
use Rattle.php_graph.specs.declared.item.BuildFault.{BuildFault}
use Rattle.php_graph.specs.declared.item.BuildFault.TheVariants.{TooDeep, TooManyPlaces}
use Rattle.php_graph.specs.Graph.{kind_at, children_of, keys_of, is_array_at, is_object_at, is_array, is_object, passes, levels, most_values, values_in, is_back, FitsKey}
use Rattle.php_graph.specs.Keys.{KnowsKeys}
use Rattle.php_graph.specs.Building.{Draft, with_member, is_container, is_name, fault_in, innermost_fault, IsAnswer, attached, changed_at, wants_by, room_fault}
use Rattle.php_graph.specs.BuilderState.{keys_among, IsSpine, IsDraft, IsBuilding, KnowsAll, Opens, IsNewValue, is_open_at, places_of}
use Rattle.php_graph.proofs.EndLemmas.{ends_rise}
use Rattle.php_graph.proofs.DraftLemmas.{places_of-push, kind_at-set_other, kind_at-set_same, kind_at-append_old, kind_at-append_new, place_is, with_member-keys, with_member-children}
use Rattle.php_graph.proofs.DraftShapes.{Grown}
use Rattle.php_graph.proofs.DraftAfterItem.{open_kind, takes_key, value_drafted, back_drafted, key_drafted, close_drafted, values_push, values_set, no_value, attached_is, no_fault}

pub grown_is : (g more : List Kind) (p : ℕ) (old new : Kind) → kind_at g p ≡ Some old → Grown g (set g (p - 1) new ++ more) p old new
grown_is g more p old new there =
    let place = place_is g p old there in
    let len : length (set g (p - 1) new) ≡ length g = length-set g (p - 1) new in
    record {
      there = there;
      changed = kind_at-append_old (set g (p - 1) new) more p (omega (arith, place.high)) ∙ kind_at-set_same g p old new there;
      others = λ k ne le. kind_at-append_old (set g (p - 1) new) more k (omega arith) ∙ kind_at-set_other g p k new place.low ne;
    }

-- outer containers keep their keys
knows_outer : (g h : List Kind) (outer : List Container) (p : ℕ) → IsSpine g (map (λ c. c.place) outer) p → ((k : ℕ) → k < p → kind_at h k ≡ kind_at g k) → KnowsAll g outer None → KnowsAll h outer None
knows_outer g h [] p spine same known = tt
knows_outer g h (c ∷ outer) p spine same known =
    let rise : c.place + 1 ≤ p = ends_rise (levels - suc (length (map (λ c. c.place) outer))) g spine.0 (c.place + 1) p spine.2 in (
      subst (λ (o : Option Kind). KnowsKeys c.highest c.seen (keys_among o ++ [])) (sym (same c.place (omega arith))) known.0,
      knows_outer g h outer c.place spine.3 (λ k lt. same k (omega arith)) known.1,
    )

-- a member more, under the key that waited
known_member : (g h : List Kind) (c : Container) (outer : List Container) (key : Key) (old new : Kind) → Grown g h c.place old new → keys_of new ≡ keys_of old ++ key ∷ [] → IsSpine g (map (λ c. c.place) outer) c.place → KnowsAll g (c ∷ outer) (Some key) → KnowsAll h (c ∷ outer) None
known_member g h c outer key old new grown keys spine known =
    let place = place_is g c.place old grown.there in
    let same : keys_among (kind_at g c.place) ++ key ∷ [] ≡ keys_among (kind_at h c.place) ++ [] =
    ap (λ (o : Option Kind). keys_among o ++ key ∷ []) grown.there ∙ sym keys ∙ sym (ap keys_among grown.changed) ∙ sym (append-nil (keys_among (kind_at h c.place))) in
    (subst (KnowsKeys c.highest c.seen) same known.0, knows_outer g h outer c.place spine (λ k lt. grown.others k (λ e. omega arith) (omega (arith, place.high))) known.1)

pub known_attached : (g more : List Kind) (r : List Container) (key : Option Key) (child : Child) → IsDraft g (map (λ c. c.place) r) key → wants_by g (map (λ c. c.place) r) key ≡ Value → KnowsAll g r key → KnowsAll (attached g (map (λ c. c.place) r) key child ++ more) r None
known_attached g more [] key child d wants known = tt
known_attached g more (c ∷ outer) None child d wants known = absurd (no_value (is_array_at g c.place) wants)
known_attached g more (c ∷ outer) (Some key) child d wants known =
    let o = open_kind g c.place (kind_at g c.place) refl d.opened.0 in
    let takes = takes_key g c.place (map (λ c. c.place) outer) key o.0 o.1 o.2 d.waiting in
    let new = with_member o.0 key child in
    subst (λ (g1 : List Kind). KnowsAll (g1 ++ more) (c ∷ outer) None) (sym (attached_is g c.place (map (λ c. c.place) outer) key child o.0 o.1))
    (known_member g (set g (c.place - 1) new ++ more) c outer key o.0 new (grown_is g more c.place o.0 new o.1) (with_member-keys o.0 key child takes.holds takes.named) d.shaped.1 known)

childless_keys : (kind : Kind) → children_of kind ≡ [] → keys_of kind ≡ []
childless_keys (kinds.Array []) e = refl
childless_keys (kinds.Array (m ∷ ms)) e = absurd cc
childless_keys (kinds.Object class []) e = refl
childless_keys (kinds.Object class (p ∷ ps)) e = absurd cc
childless_keys kinds.Null e = refl
childless_keys (kinds.Bool b) e = refl
childless_keys (kinds.Int n) e = refl
childless_keys (kinds.Str bytes) e = refl
childless_keys (kinds.Same x) e = refl

length-changed_at : (g : List Kind) (p : ℕ) (change : Kind → Kind) (o : Option Kind) → length (changed_at g p change o) ≡ length g
length-changed_at g p change None = refl
length-changed_at g p change (Some kind) = length-set g (p - 1) (change kind)

pub length-attached : (g : List Kind) (cs : List ℕ) (key : Option Key) (child : Child) → length (attached g cs key child) ≡ length g
length-attached g [] None child = refl
length-attached g [] (Some key) child = refl
length-attached g (p ∷ outer) None child = refl
length-attached g (p ∷ outer) (Some key) child = length-changed_at g p (λ kind. with_member kind key child) (kind_at g p)

-- the containers after a value
known_opened : (h : List Kind) (b : Bool) (n : ℕ) (cs cs' : List Container) (kind : Kind) → Opens b n cs cs' → kind_at h n ≡ Some kind → children_of kind ≡ [] → KnowsAll h (reverse cs) None → KnowsAll h (reverse cs') None × (places_of cs' ≡ cond b (n ∷ places_of cs) (places_of cs))
known_opened h false n cs cs' kind opens there childless known = (subst (λ (xs : List Container). KnowsAll h (reverse xs) None) (sym opens) known, ap places_of opens)
known_opened h true n cs cs' kind opens there childless known =
    let c = opens.0 in
    let turned : reverse cs' ≡ c ∷ reverse cs = ap reverse opens.1 ∙ reverse-append cs (c ∷ []) in
    let keys : [] ≡ keys_among (kind_at h c.place) ++ [] = sym (append-nil (keys_among (kind_at h c.place)) ∙ ap (λ (k : ℕ). keys_among (kind_at h k)) opens.2 ∙ ap keys_among there ∙ childless_keys kind childless) in (
      subst (λ (xs : List Container). KnowsAll h xs None) (sym turned) (subst (KnowsKeys c.highest c.seen) keys opens.3, known),
      ap places_of opens.1 ∙ places_of-push cs c ∙ ap (λ (k : ℕ). k ∷ places_of cs) opens.2,
    )

pub values_after : (g : List Kind) (cs : List ℕ) (key : Option Key) (child : Child) → IsDraft g cs key → wants_by g cs key ≡ Value → (cs ≡ [] → is_back child ≡ false) → values_in (attached g cs key child) ≡ values_in g + cond (is_back child) 1 0
values_after g [] None child d wants top = rw (top refl) (omega arith)
values_after g [] (Some key) child d wants top = absurd d.waiting
values_after g (p ∷ outer) None child d wants top = absurd (no_value (is_array_at g p) wants)
values_after g (p ∷ outer) (Some key) child d wants top =
    let o = open_kind g p (kind_at g p) refl d.opened.0 in
    let takes = takes_key g p outer key o.0 o.1 o.2 d.waiting in
    ap values_in (attached_is g p outer key child o.0 o.1) ∙ values_set g p o.0 (with_member o.0 key child) child o.1 (with_member-children o.0 key child takes.holds takes.named)

-- there is room
pub record HasRoom (g : List Kind) (cs : List ℕ) : Type 0 where
  pub deep : suc (length cs) ≤ levels
  pub few : suc (values_in g) ≤ most_values

pub has_room : (d : Draft) → room_fault d ≡ None → HasRoom d.places d.containers
has_room d e =
    let first = no_fault (nat_le levels (length d.containers)) TooDeep (cond (nat_le most_values (values_in d.places)) (Some TooManyPlaces) None) e in
    let second = no_fault (nat_le most_values (values_in d.places)) TooManyPlaces None first.1 in
    record { deep = grind (arith, nat_tests, first.0); few = grind (arith, nat_tests, second.0) }

pub building_value : (g h : List Kind) (cs cs' : List Container) (key : Option Key) (values : ℕ) (kind : Kind) → IsBuilding g cs key values → wants_by g (places_of cs) key ≡ Value → HasRoom g (places_of cs) → IsNewValue g kind
    → h ≡ attached g (places_of cs) key (Own (length g + 1)) ++ kind ∷ [] → Opens (is_container kind) (length g + 1) cs cs' → IsBuilding h cs' None (values + 1)
building_value g h cs cs' key values kind b wants room new is opens =
    let n = length g + 1 in
    let g1 = attached g (places_of cs) key (Own n) in
    let len : length g1 ≡ length g = length-attached g (places_of cs) key (Own n) in
    let there : kind_at h n ≡ Some kind = ap (λ (x : List Kind). kind_at x n) is ∙ subst (λ (l : ℕ). kind_at (g1 ++ kind ∷ []) (l + 1) ≡ Some kind) len (kind_at-append_new g1 kind) in
    let known = subst (λ (x : List Kind). KnowsAll x (reverse cs) None) (sym is) (known_attached g (kind ∷ []) (reverse cs) key (Own n) b.draft wants b.known) in
    let after = known_opened h (is_container kind) n cs cs' kind opens there new.childless known in
    let drafted = value_drafted g (places_of cs) key kind b.draft wants room.deep room.few new in
    let draft : IsDraft h (places_of cs') None = subst (λ (x : List Kind). IsDraft x (places_of cs') None) (sym is) (subst (λ (xs : List ℕ). IsDraft (g1 ++ kind ∷ []) xs None) (sym after.1) drafted) in
    record {
      draft = draft;
      known = after.0;
      values_are = omega (arith, b.values_are, ap values_in is, values_push g1 kind new.childless, values_after g (places_of cs) key (Own n) b.draft wants (λ e. refl));
    }

pub opens_is : (b b' : Bool) (n n' : ℕ) (cs cs' new : List Container) → b' ≡ b → n' ≡ n → cs' ≡ cs → Opens b' n' cs' new → Opens b n cs new
opens_is b b' n n' cs cs' new eb en ec opens =
    subst (λ (x : Bool). Opens x n cs new) eb (subst (λ (x : ℕ). Opens b' x cs new) en (subst (λ (x : List Container). Opens b' n' x new) ec opens))

-- ---- the end of a container

front_of : {A : Type 0} (xs ys : List A) (x : A) → xs ≡ ys ++ x ∷ [] → reverse xs ≡ x ∷ reverse ys
front_of xs ys x e = ap reverse e ∙ reverse-append ys (x ∷ [])

known_closed : (g : List Kind) (r : List Container) (c : Container) (rest : List Container) → r ≡ c ∷ rest → KnowsAll g r None → KnowsAll g rest None
known_closed g r c rest e known = (subst (λ (xs : List Container). KnowsAll g xs None) e known).1

pub building_closed : (g : List Kind) (cs cs' : List Container) (key : Option Key) (values : ℕ) (c : Container) → IsBuilding g cs key values → key ≡ None → cs ≡ cs' ++ c ∷ [] → IsBuilding g cs' key values
building_closed g cs cs' key values c b no_key e =
    let turned = front_of cs cs' c e in
    let open_here : IsDraft g (c.place ∷ places_of cs') None = subst (λ (k : Option Key). IsDraft g (c.place ∷ places_of cs') k) no_key (subst (λ (xs : List Container). IsDraft g (map (λ c. c.place) xs) key) turned b.draft) in
    let closed = close_drafted g c.place (places_of cs') open_here in
    let known = known_closed g (reverse cs) c (reverse cs') turned (subst (KnowsAll g (reverse cs)) no_key b.known) in
    record {
      draft = subst (IsDraft g (places_of cs')) (sym no_key) closed;
      known = subst (KnowsAll g (reverse cs')) (sym no_key) known;
      values_are = b.values_are;
    }

pub wants_no_value : (g : List Kind) (cs : List ℕ) (key : Option Key) → IsDraft g cs key → (wants_by g cs key ≡ ArrayKey) ⊎ (wants_by g cs key ≡ Name) → (key ≡ None) × ((p : ℕ) × (outer : List ℕ) × (cs ≡ p ∷ outer))
wants_no_value [] [] key d (inl e) = absurd cc
wants_no_value [] [] key d (inr e) = absurd cc
wants_no_value (k ∷ ks) [] key d (inl e) = absurd cc
wants_no_value (k ∷ ks) [] key d (inr e) = absurd cc
wants_no_value g (p ∷ outer) None d w = (refl, (p, outer, refl))
wants_no_value g (p ∷ outer) (Some key) d (inl e) = absurd cc
wants_no_value g (p ∷ outer) (Some key) d (inr e) = absurd cc

-- ---- a member that shares a place

pub no_back : (g : List Kind) (cs : List ℕ) (key : Option Key) (x : ℕ) → IsDraft g cs key → wants_by g cs key ≡ Value → 1 ≤ x → x ≤ length g → ¬ cs ≡ []
no_back [] [] None x d wants low high e = omega arith
no_back (k ∷ ks) [] None x d wants low high e = cc
no_back g [] (Some key) x d wants low high e = d.waiting
no_back g (p ∷ outer) key x d wants low high e = cc

pub building_back : (g h : List Kind) (cs : List Container) (key : Option Key) (values x : ℕ) → IsBuilding g cs key values → wants_by g (places_of cs) key ≡ Value → HasRoom g (places_of cs) → 1 ≤ x → x ≤ length g
    → h ≡ attached g (places_of cs) key (Back x) → IsBuilding h cs None (values + 1)
building_back g h cs key values x b wants room low high is =
    let g1 = attached g (places_of cs) key (Back x) in
    let known = known_attached g [] (reverse cs) key (Back x) b.draft wants b.known in
    let known1 : KnowsAll g1 (reverse cs) None = subst (λ (y : List Kind). KnowsAll y (reverse cs) None) (append-nil g1) known in
    let draft = back_drafted g (places_of cs) key x b.draft wants room.deep room.few low high in
    let not_top : (places_of cs ≡ []) → is_back (Back x) ≡ false = λ e. absurd (no_back g (places_of cs) key x b.draft wants low high e) in
    record {
      draft = subst (λ (y : List Kind). IsDraft y (places_of cs) None) (sym is) draft;
      known = subst (λ (y : List Kind). KnowsAll y (reverse cs) None) (sym is) known1;
      values_are = omega (arith, b.values_are, ap values_in is, values_after g (places_of cs) key (Back x) b.draft wants not_top);
    }

-- ---- a key

set_end : {A : Type 0} (xs : List A) (x y : A) → set (xs ++ x ∷ []) (length (xs ++ x ∷ []) - 1) y ≡ xs ++ y ∷ []
set_end [] x y = refl
set_end (z ∷ xs) x y =
    let i : suc (length (xs ++ x ∷ [])) - 1 ≡ suc (length (xs ++ x ∷ []) - 1) = omega (arith, length-append xs (x ∷ [])) in
    rw i (ap (λ (ys : List _). z ∷ ys) (set_end xs x y))

last_set : (cs rest : List Container) (c y : Container) → reverse cs ≡ c ∷ rest → reverse (set cs (length cs - 1) y) ≡ y ∷ rest
last_set cs rest c y e =
    let whole : cs ≡ reverse rest ++ c ∷ [] = sym (reverse-reverse cs) ∙ ap reverse e ∙ reverse-append (c ∷ []) rest in
    ap reverse (ap (λ (xs : List Container). set xs (length xs - 1) y) whole ∙ set_end (reverse rest) c y) ∙ reverse-append (reverse rest) (y ∷ []) ∙ ap (λ (xs : List Container). y ∷ xs) (reverse-reverse rest)

-- what is known of the container that was opened last
pub record IsLast (g : List Kind) (cs : List Container) (c : Container) : Type 0 where
  pub rest : List Container
  pub first : reverse cs ≡ c ∷ rest
  pub kind : Kind
  pub there : kind_at g c.place ≡ Some kind
  pub low : 1 ≤ c.place
  pub high : c.place ≤ length g
  pub knows : KnowsKeys c.highest c.seen (keys_of kind)
  pub outer : KnowsAll g rest None

pub last_is : (g : List Kind) (cs : List Container) (c : Container) → ¬ length cs ≡ 0 → c ≡ get_or cs (length cs - 1) c → KnowsAll g (reverse cs) None → AllByRecursion (λ p. is_open_at g p ≡ true) (places_of cs) → IsLast g cs c
last_is g cs c some at known opened =
    let l = last_first cs c (slice_get_read cs (length cs) (length cs - 1) c refl (omega (arith, some)) at) in
    let all : AllByRecursion (λ p. is_open_at g p ≡ true) (c.place ∷ map (λ c. c.place) l.0) = subst (λ (xs : List Container). AllByRecursion (λ p. is_open_at g p ≡ true) (map (λ c. c.place) xs)) l.1 opened in
    let o = open_kind g c.place (kind_at g c.place) refl all.0 in
    let place = place_is g c.place o.0 o.1 in
    let k : KnowsAll g (c ∷ l.0) None = subst (λ (xs : List Container). KnowsAll g xs None) l.1 known in
    record {
      rest = l.0;
      first = l.1;
      kind = o.0;
      there = o.1;
      low = place.low;
      high = place.high;
      knows = subst (KnowsKeys c.highest c.seen) (append-nil (keys_among (kind_at g c.place)) ∙ ap keys_among o.1) k.0;
      outer = k.1;
    }

pub last_answer : (g : List Kind) (cs : List Container) (c : Container) (key : Key) (r : Result (Unit {0}) BuildFault) (i : IsLast g cs c) → IsAnswer (fault_in i.kind key) r → IsAnswer (innermost_fault g (places_of cs) key) r
last_answer g cs c key r i answer =
    let same : innermost_fault g (places_of cs) key ≡ fault_in i.kind key = rw (i.first, i.there) refl in
    subst (λ (f : Option BuildFault). IsAnswer f r) (sym same) answer

pub last_places : (g : List Kind) (cs : List Container) (c y : Container) → IsLast g cs c → y.place ≡ c.place → places_of (set cs (length cs - 1) y) ≡ places_of cs
last_places g cs c y i same = ap (map (λ c. c.place)) (last_set cs i.rest c y i.first) ∙ ap (λ (p : ℕ). p ∷ map (λ c. c.place) i.rest) same ∙ sym (ap (map (λ c. c.place)) i.first)

last_knows : (g : List Kind) (cs : List Container) (c y : Container) (more : Option Key) (i : IsLast g cs c) → y.place ≡ c.place → KnowsKeys y.highest y.seen (keys_of i.kind ++ option_to_list more) → KnowsAll g (reverse (set cs (length cs - 1) y)) more
last_knows g cs c y more i same knows =
    let there : kind_at g y.place ≡ Some i.kind = ap (kind_at g) same ∙ i.there in
    subst (λ (xs : List Container). KnowsAll g xs more) (sym (last_set cs i.rest c y i.first))
    (subst (λ (o : Option Kind). KnowsKeys y.highest y.seen (keys_among o ++ option_to_list more)) (sym there) knows, i.outer)

pub last_ok : (g : List Kind) (cs : List Container) (c y : Container) (key : Key) (r : Result (Unit {0}) BuildFault) (i : IsLast g cs c) → y.place ≡ c.place → OnOk r (KnowsKeys y.highest y.seen (keys_of i.kind ++ key ∷ [])) → OnOk r (KnowsAll g (reverse (set cs (length cs - 1) y)) (Some key))
last_ok g cs c y key (Ok done) i same knows = last_knows g cs c y (Some key) i same knows
last_ok g cs c y key (Err fault) i same knows = tt

pub last_err : (g : List Kind) (cs : List Container) (c y : Container) (r : Result (Unit {0}) BuildFault) (i : IsLast g cs c) → y.place ≡ c.place → OnErr r (KnowsKeys y.highest y.seen (keys_of i.kind)) → OnErr r (KnowsAll g (reverse (set cs (length cs - 1) y)) None)
last_err g cs c y (Ok done) i same knows = tt
last_err g cs c y (Err fault) i same knows = last_knows g cs c y None i same (subst (KnowsKeys y.highest y.seen) (sym (append-nil (keys_of i.kind))) knows)

pub building_refused : (g : List Kind) (cs cs' : List Container) (key : Option Key) (values : ℕ) → IsBuilding g cs key values → key ≡ None → places_of cs' ≡ places_of cs → KnowsAll g (reverse cs') None → IsBuilding g cs' key values
building_refused g cs cs' key values b no_key same known = record {
  draft = subst (λ (xs : List ℕ). IsDraft g xs key) (sym same) b.draft;
  known = subst (KnowsAll g (reverse cs')) (sym no_key) known;
  values_are = b.values_are;
}

not_both : (o : Option Kind) → cond (passes is_array o) ArrayKey Name ≡ ArrayKey → ¬ passes is_object o ≡ true
not_both None e object = cc
not_both (Some (kinds.Array ms)) e object = cc
not_both (Some (kinds.Object class ps)) e object = cc
not_both (Some kinds.Null) e object = cc
not_both (Some (kinds.Bool b)) e object = cc
not_both (Some (kinds.Int n)) e object = cc
not_both (Some (kinds.Str bytes)) e object = cc
not_both (Some (kinds.Same x)) e object = cc

named_only : (g : List Kind) (p : ℕ) (outer : List ℕ) (key : Key) → (wants_by g (p ∷ outer) None ≡ ArrayKey) ⊎ ((wants_by g (p ∷ outer) None ≡ Name) × (is_name key ≡ true)) → is_object_at g p ≡ true → is_name key ≡ true
named_only g p outer key (inr w) object = w.1
named_only g p outer key (inl e) object = absurd (not_both (kind_at g p) e object)

pub key_in : (g : List Kind) (cs : List ℕ) (key : Key) → IsDraft g cs None → (wants_by g cs None ≡ ArrayKey) ⊎ ((wants_by g cs None ≡ Name) × (is_name key ≡ true)) → FitsKey key → innermost_fault g cs key ≡ None → IsDraft g cs (Some key)
key_in [] [] key d (inl e) fits sound = absurd cc
key_in [] [] key d (inr e) fits sound = let f = e.0 in absurd cc
key_in (k ∷ ks) [] key d (inl e) fits sound = absurd cc
key_in (k ∷ ks) [] key d (inr e) fits sound = let f = e.0 in absurd cc
key_in g (p ∷ outer) key d w fits sound = key_drafted g p outer key d fits sound (named_only g p outer key w)

pub building_key : (g : List Kind) (cs cs' : List Container) (old : Option Key) (key : Key) (values : ℕ) → IsBuilding g cs old values → old ≡ None → (wants_by g (places_of cs) old ≡ ArrayKey) ⊎ ((wants_by g (places_of cs) old ≡ Name) × (is_name key ≡ true)) → FitsKey key
    → innermost_fault g (places_of cs) key ≡ None → places_of cs' ≡ places_of cs → KnowsAll g (reverse cs') (Some key) → IsBuilding g cs' (Some key) values
building_key g cs cs' old key values b no_key wants fits sound same known =
    let d = subst (IsDraft g (places_of cs)) no_key b.draft in
    let w = subst (λ (o : Option Key). (wants_by g (places_of cs) o ≡ ArrayKey) ⊎ ((wants_by g (places_of cs) o ≡ Name) × (is_name key ≡ true))) no_key wants in
    record {
      draft = subst (λ (xs : List ℕ). IsDraft g xs (Some key)) (sym same) (key_in g (places_of cs) key d w fits sound);
      known = known;
      values_are = b.values_are;
    }

pub popped : (g : List Kind) (cs cs' : List Container) (key : Option Key) (values : ℕ) (r : Option Container) → IsBuilding g cs key values → key ≡ None → (p : ℕ) × (outer : List ℕ) × (places_of cs ≡ p ∷ outer) → cs ≡ cs' ++ option_to_list r → IsBuilding g cs' key values
popped g cs cs' key values (Some c) b no_key some e = building_closed g cs cs' key values c b no_key e
popped g cs cs' key values None b no_key some e = subst (λ (xs : List Container). IsBuilding g xs key values) (e ∙ append-nil cs') b
