-- The text of a value, taken apart as a writer meets it.
use Rattle.std.proofs.Common.{◌≡◌, ℕ, zero, suc, ◌+◌, ◌-◌, ◌<◌, ◌≤◌, Bool, true, false, cond, eqb, List, [], ◌∷◌, ◌++◌, length, map, drop, Option, Some, None, refl, sym, ap, subst, ◌∙◌, append_assoc, arith, codes, length-append}
use Rattle.std.specs.Prelude.{slice_get, reverse}
use Rattle.std.specs.Option.{option_and_then}
use Rattle.std.specs.Fmt.{decimal}
use Rattle.std.proofs.lemmas.Bool.{eqb-true}
use Rattle.std.proofs.lemmas.Option.{slice_get_within}
use Rattle.std.specs.Prelude.{OnOk, Result, Ok, Err}
use Rattle.std.proofs.lemmas.List.{append-nil, length-reverse, reverse-append}
use Rattle.php_graph.specs.declared.key.Key.{Key}
use Rattle.php_graph.specs.declared.key.Key.TheVariants as keys
use Rattle.php_graph.specs.declared.child.Child.{Child}
use Rattle.php_graph.specs.declared.child.Child.TheVariants.{Own, Back}
use Rattle.php_graph.specs.declared.kind.Kind.{Kind}
use Rattle.php_graph.specs.declared.kind.Kind.TheVariants as kinds
use Rattle.php_graph.specs.Graph.{kind_at, child_end, ends_after, children_of, levels, end_of, IsGraph}
use Rattle.php_graph.specs.Building.{named, is_container}
use Rattle.notation.specs.Notation.{kind_text, key_text, member_texts, child_text}
use Rattle.notation.specs.Parts.{members_of, start_text, members_rest_text, frame_text}
use Rattle.notation.specs.Appending.{Extends, MemberStep}
use Rattle.notation.specs.Writing.{pending, HasEnd, AreBegun, EndsSomewhere, IsChildBegun, IsStepMade}
use Rattle.notation.specs.declared.writing.Frame.{Frame}

-- ---- appending

pub extends_same : (a b : List ℕ) → b ≡ a → Extends a b
extends_same a b e = record { added = []; is = e ∙ sym (append-nil a) }

pub extends_by : (a b x : List ℕ) → b ≡ a ++ x → Extends a b
extends_by a b x e = record { added = x; is = e }

pub extends_then : (a b c : List ℕ) → Extends a b → Extends b c → Extends a c
extends_then a b c p q = record { added = p.added ++ q.added; is = q.is ∙ ap (λ (t : List ℕ). t ++ q.added) p.is ∙ append_assoc a p.added q.added }

-- ---- members

names_held : (ps : List (List ℕ × Child)) → map (λ p. p.1) ps ≡ map (λ m. m.1) (map named ps)
names_held [] = refl
names_held (p ∷ ps) = ap (λ (cs : List Child). p.1 ∷ cs) (names_held ps)

pub held_by : (kind : Kind) → children_of kind ≡ map (λ m. m.1) (members_of kind)
held_by kinds.Null = refl
held_by (kinds.Bool b) = refl
held_by (kinds.Int n) = refl
held_by (kinds.Str bytes) = refl
held_by (kinds.Array ms) = refl
held_by (kinds.Object class ps) = names_held ps
held_by (kinds.Same x) = refl

-- a place's text: up to its members, and from the first member on
pub kind_split : (base : ℕ) (written : Child → List ℕ) (kind : Kind) → kind_text base written (Some kind) ≡ start_text base kind ++ cond (is_container kind) (members_rest_text written 0 (members_of kind)) []
kind_split base written kinds.Null = refl
kind_split base written (kinds.Bool true) = refl
kind_split base written (kinds.Bool false) = refl
kind_split base written (kinds.Int n) = sym (append-nil _)
kind_split base written (kinds.Str bytes) = sym (append-nil _)
kind_split base written (kinds.Array ms) = refl
kind_split base written (kinds.Object class ps) = refl
kind_split base written (kinds.Same x) = sym (append-nil _)

-- ---- what a member holds

pub if_some : {A : Type 0} (b : Bool) (o : Option A) (y : A) → cond b o None ≡ Some y → (b ≡ true) × (o ≡ Some y)
if_some true o y e = (refl, e)
if_some false o y e = absurd cc

pub then_some : {A B : Type 0} (f : A → Option B) (o : Option A) (y : B) → option_and_then f o ≡ Some y → (x : A) × (o ≡ Some x) × (f x ≡ Some y)
then_some f (Some x) y e = (x, refl, e)
then_some f None y e = absurd cc

pub record IsOwn (level base : ℕ) (g : List Kind) (x to : ℕ) : Type 0 where
  pub kind : Kind
  pub there : kind_at g x ≡ Some kind
  pub ends : ends_after (child_end level g) (children_of kind) (x + 1) ≡ Some to
  pub text : child_text (suc level) base g (Own x) ≡ kind_text base (child_text level base g) (Some kind)

pub own_at : (level base : ℕ) (g : List Kind) (x from to : ℕ) → child_end (suc level) g (Own x) from ≡ Some to → IsOwn level base g x to
unfolding child_end child_text
own_at level base g x from to e =
    let a = if_some (eqb x from) (option_and_then (λ kind. ends_after (child_end level g) (children_of kind) (from + 1)) (kind_at g from)) to e in
    let same : x ≡ from = eqb-true x from a.0 in
    let b = then_some (λ kind. ends_after (child_end level g) (children_of kind) (from + 1)) (kind_at g from) to a.1 in
    let there : kind_at g x ≡ Some b.0 = ap (kind_at g) same ∙ b.1 in
    record {
      kind = b.0;
      there = there;
      ends = ap (λ (m : ℕ). ends_after (child_end level g) (children_of b.0) (m + 1)) same ∙ b.2;
      text = ap (λ (o : Option Kind). kind_text base (child_text level base g) o) there;
    }

pub no_level : (g : List Kind) (c : Child) (from to : ℕ) → child_end 0 g c from ≡ Some to → ⊥
unfolding child_end
no_level g c from to e = cc

pub some_level : (level : ℕ) (g : List Kind) (c : Child) → EndsSomewhere level g c → 0 < level
some_level zero g c e = absurd (no_level g c e.from e.to e.ends)
some_level (suc level) g c e = omega arith

pub back_text : (level base : ℕ) (g : List Kind) (x : ℕ) → child_text (suc level) base g (Back x) ≡ codes "R:" ++ decimal (x + base) ++ codes ";"
unfolding child_text
back_text level base g x = refl

pub own_of : (k base : ℕ) (g : List Kind) (x : ℕ) (e : EndsSomewhere (levels - k) g (Own x)) → IsOwn (levels - suc k) base g x e.to
own_of k base g x e =
    let some : 0 < levels - k = some_level (levels - k) g (Own x) e in
    let level : levels - k ≡ suc (levels - suc k) = omega arith in
    own_at (levels - suc k) base g x e.from e.to (subst (λ (l : ℕ). child_end l g (Own x) e.from ≡ Some e.to) level e.ends)

pub own_text : (k base : ℕ) (g : List Kind) (x : ℕ) (e : EndsSomewhere (levels - k) g (Own x)) → child_text (levels - k) base g (Own x) ≡ child_text (suc (levels - suc k)) base g (Own x)
own_text k base g x e =
    let some : 0 < levels - k = some_level (levels - k) g (Own x) e in
    ap (λ (l : ℕ). child_text l base g (Own x)) (omega arith)

pub back_of : (k base : ℕ) (g : List Kind) (x : ℕ) (e : EndsSomewhere (levels - k) g (Back x)) → child_text (levels - k) base g (Back x) ≡ codes "R:" ++ decimal (x + base) ++ codes ";"
back_of k base g x e =
    let some : 0 < levels - k = some_level (levels - k) g (Back x) e in
    let level : levels - k ≡ suc (levels - suc k) = omega arith in
    ap (λ (l : ℕ). child_text l base g (Back x)) level ∙ back_text (levels - suc k) base g x

-- a place that is there
pub place_there : (g : List Kind) (x : ℕ) (kind : Kind) → kind_at g x ≡ Some kind → (1 ≤ x) × (x ≤ length g)
place_there g zero kind e = absurd cc
place_there g (suc k) kind e = let lt : k < length g = slice_get_within g k kind e in (omega arith, omega arith)

-- ---- steps

pub some_same : {A : Type 0} (x y : A) → Some x ≡ Some y → x ≡ y
some_same x y e = cc

-- the number of a shared place was written
pub back_begun : (base : ℕ) (g : List Kind) (x : ℕ) (frames : List Frame) (old new : List ℕ) → EndsSomewhere (levels - length frames) g (Back x) → new ≡ old ++ (codes "R:" ++ decimal (x + base) ++ codes ";") → IsChildBegun base g (Back x) (reverse frames) (reverse frames) old new
back_begun base g x frames old new e is =
    let len : length (reverse frames) ≡ length frames = length-reverse frames in
    let text : child_text (levels - length (reverse frames)) base g (Back x) ≡ codes "R:" ++ decimal (x + base) ++ codes ";" = ap (λ (k : ℕ). child_text (levels - k) base g (Back x)) len ∙ back_of (length frames) base g x e in
    record {
      written = ap (λ (t : List ℕ). t ++ pending base g (reverse frames)) (is ∙ ap (λ (t : List ℕ). old ++ t) (sym text)) ∙ append_assoc old _ (pending base g (reverse frames));
      begun = λ h. h;
      longer = omega (arith, ap length is, length-append old (codes "R:" ++ decimal (x + base) ++ codes ";"));
    }

-- a value without members was written
pub plain_begun : (base : ℕ) (g : List Kind) (x : ℕ) (kind : Kind) (frames : List Frame) (old new : List ℕ) → EndsSomewhere (levels - length frames) g (Own x) → kind_at g x ≡ Some kind → is_container kind ≡ false → new ≡ old ++ start_text base kind → IsChildBegun base g (Own x) (reverse frames) (reverse frames) old new
plain_begun base g x kind frames old new e there plain is =
    let len : length (reverse frames) ≡ length frames = length-reverse frames in
    let k = length frames in
    let o = own_of k base g x e in
    let same : o.kind ≡ kind = some_same o.kind kind (sym o.there ∙ there) in
    let split : kind_text base (child_text (levels - suc k) base g) (Some kind) ≡ start_text base kind = kind_split base (child_text (levels - suc k) base g) kind ∙ ap (λ (b : Bool). start_text base kind ++ cond b (members_rest_text (child_text (levels - suc k) base g) 0 (members_of kind)) []) plain ∙ append-nil (start_text base kind) in
    let text : child_text (levels - length (reverse frames)) base g (Own x) ≡ start_text base kind = ap (λ (l : ℕ). child_text (levels - l) base g (Own x)) len ∙ own_text k base g x e ∙ o.text ∙ ap (λ (y : Kind). kind_text base (child_text (levels - suc k) base g) (Some y)) same ∙ split in
    record {
      written = ap (λ (t : List ℕ). t ++ pending base g (reverse frames)) (is ∙ ap (λ (t : List ℕ). old ++ t) (sym text)) ∙ append_assoc old _ (pending base g (reverse frames));
      begun = λ h. h;
      longer = omega (arith, ap length is, length-append old (start_text base kind));
    }

-- the head of a container was written
pub container_begun : (base : ℕ) (g : List Kind) (x : ℕ) (kind : Kind) (frames after : List Frame) (f : Frame) (old new : List ℕ) → EndsSomewhere (levels - length frames) g (Own x) → kind_at g x ≡ Some kind → is_container kind ≡ true → new ≡ old ++ start_text base kind → f.place ≡ x → f.next ≡ 0 → after ≡ frames ++ f ∷ [] → IsChildBegun base g (Own x) (reverse frames) (reverse after) old new
container_begun base g x kind frames after f old new e there container is at first pushed =
    let len : length (reverse frames) ≡ length frames = length-reverse frames in
    let k = length frames in
    let o = own_of k base g x e in
    let same : o.kind ≡ kind = some_same o.kind kind (sym o.there ∙ there) in
    let written = child_text (levels - suc k) base g in
    let rest = members_rest_text written 0 (members_of kind) in
    let split : kind_text base written (Some kind) ≡ start_text base kind ++ rest = kind_split base written kind ∙ ap (λ (b : Bool). start_text base kind ++ cond b rest []) container in
    let text : child_text (levels - length (reverse frames)) base g (Own x) ≡ start_text base kind ++ rest = ap (λ (l : ℕ). child_text (levels - l) base g (Own x)) len ∙ own_text k base g x e ∙ o.text ∙ ap (λ (y : Kind). kind_text base written (Some y)) same ∙ split in
    let stack : reverse after ≡ f ∷ reverse frames = ap reverse pushed ∙ reverse-append frames (f ∷ []) in
    let here : kind_at g f.place ≡ Some kind = ap (kind_at g) at ∙ there in
    let frame : frame_text (child_text (levels - suc (length (reverse frames))) base g) f.next (kind_at g f.place) ≡ rest =
    ap (λ (l : ℕ). frame_text (child_text (levels - suc l) base g) f.next (kind_at g f.place)) len ∙ ap (λ (i : ℕ). frame_text written i (kind_at g f.place)) first ∙ ap (λ (y : Option Kind). frame_text written 0 y) here in
    let pend : pending base g (reverse after) ≡ rest ++ pending base g (reverse frames) = ap (pending base g) stack ∙ ap (λ (t : List ℕ). t ++ pending base g (reverse frames)) frame in
    let ended : HasEnd (child_end (levels - suc (length (reverse frames))) g) (map (λ m. m.1) (drop f.next (members_of kind))) =
    (x + 1, e.to, ap (λ (l : ℕ). ends_after (child_end (levels - suc l) g) (map (λ m. m.1) (drop f.next (members_of kind))) (x + 1)) len ∙ ap (λ (i : ℕ). ends_after (child_end (levels - suc k) g) (map (λ m. m.1) (drop i (members_of kind))) (x + 1)) first ∙ ap (λ (cs : List Child). ends_after (child_end (levels - suc k) g) cs (x + 1)) (sym (held_by kind)) ∙ ap (λ (y : Kind). ends_after (child_end (levels - suc k) g) (children_of y) (x + 1)) (sym same) ∙ o.ends) in
    record {
      written = ap (λ (t : List ℕ). t ++ pending base g (reverse after)) is ∙ ap (λ (t : List ℕ). (old ++ start_text base kind) ++ t) pend ∙ append_assoc old (start_text base kind) (rest ++ pending base g (reverse frames))
          ∙ ap (λ (t : List ℕ). old ++ t) (sym (append_assoc (start_text base kind) rest (pending base g (reverse frames))) ∙ ap (λ (t : List ℕ). t ++ pending base g (reverse frames)) (sym text));
      begun = λ h. subst (AreBegun g) (sym stack) (record { kind = kind; there = here; ended = ended }, h);
      longer = omega (arith, ap length is, length-append old (start_text base kind));
    }

-- ---- the next member

past_end : {A : Type 0} (xs : List A) (i : ℕ) → length xs ≤ i → drop i xs ≡ []
past_end [] zero le = refl
past_end [] (suc i) le = refl
past_end (x ∷ xs) zero le = absurd (omega arith)
past_end (x ∷ xs) (suc i) le = past_end xs i (omega arith)

drop_none : {A : Type 0} (xs : List A) (i : ℕ) → slice_get xs i ≡ None → drop i xs ≡ []
drop_none [] zero e = refl
drop_none [] (suc i) e = refl
drop_none (x ∷ xs) zero e = absurd cc
drop_none (x ∷ xs) (suc i) e = drop_none xs i e

drop_some : {A : Type 0} (xs : List A) (i : ℕ) (x : A) → slice_get xs i ≡ Some x → drop i xs ≡ x ∷ drop (suc i) xs
drop_some [] i x e = absurd cc
drop_some (y ∷ xs) zero x e = ap (λ (z : _). z ∷ xs) (some_same y x e)
drop_some (y ∷ xs) (suc i) x e = drop_some xs i x e

-- the end of a container was written
pub end_made : (base : ℕ) (g : List Kind) (kind : Kind) (f : Frame) (outer : List Frame) (old new : List ℕ) → kind_at g f.place ≡ Some kind → slice_get (members_of kind) f.next ≡ None → AreBegun g (f ∷ outer) → new ≡ old ++ codes "}" → IsStepMade base g (f ∷ outer) outer old new
end_made base g kind f outer old new there none begun is =
    let written = child_text (levels - suc (length outer)) base g in
    let text : frame_text written f.next (kind_at g f.place) ≡ codes "}" = ap (λ (o : Option Kind). frame_text written f.next o) there ∙ ap (λ (ms : List (Key × Child)). member_texts written ms ++ codes "}") (drop_none (members_of kind) f.next none) in
    record {
      written = ap (λ (t : List ℕ). t ++ pending base g outer) (is ∙ ap (λ (t : List ℕ). old ++ t) (sym text)) ∙ append_assoc old _ (pending base g outer);
      begun = begun.1;
      longer = omega (arith, ap length is, length-append old (codes "}"));
    }

pub record IsNext (level : ℕ) (g : List Kind) (c : Child) (rest : List Child) : Type 0 where
  pub here : EndsSomewhere level g c
  pub others : HasEnd (child_end level g) rest

next_of : (level : ℕ) (g : List Kind) (c : Child) (rest : List Child) → HasEnd (child_end level g) (c ∷ rest) → IsNext level g c rest
next_of level g c rest h =
    let b = then_some (ends_after (child_end level g) rest) (child_end level g c h.0) h.1 h.2 in
    record { here = record { from = h.0; to = b.0; ends = b.1 }; others = (b.0, h.1, b.2) }

-- the members after this one
pub member_next : (g : List Kind) (kind : Kind) (f : Frame) (outer : List Frame) (m : Key × Child) → kind_at g f.place ≡ Some kind → slice_get (members_of kind) f.next ≡ Some m → AreBegun g (f ∷ outer) → IsNext (levels - suc (length outer)) g m.1 (map (λ x. x.1) (drop (suc f.next) (members_of kind)))
member_next g kind f outer m there here begun =
    let level = levels - suc (length outer) in
    let same : begun.0.kind ≡ kind = some_same begun.0.kind kind (sym begun.0.there ∙ there) in
    let ended : HasEnd (child_end level g) (map (λ x. x.1) (drop f.next (members_of kind))) = subst (λ (y : Kind). HasEnd (child_end level g) (map (λ x. x.1) (drop f.next (members_of y)))) same begun.0.ended in
    next_of level g m.1 (map (λ x. x.1) (drop (suc f.next) (members_of kind))) (subst (λ (ms : List (Key × Child)). HasEnd (child_end level g) (map (λ x. x.1) ms)) (drop_some (members_of kind) f.next m here) ended)

key_some : (k : Key) → 0 < length (key_text k)
key_some (keys.Int n) = omega arith
key_some (keys.Str bytes) = omega arith

-- a key was written, and what stands under it was begun
pub member_made : (base : ℕ) (g : List Kind) (kind : Kind) (f h : Frame) (frames pushed after : List Frame) (m : Key × Child) (old mid new : List ℕ)
    → kind_at g f.place ≡ Some kind → slice_get (members_of kind) f.next ≡ Some m → AreBegun g (f ∷ reverse frames) → mid ≡ old ++ key_text m.0
    → h.place ≡ f.place → h.next ≡ suc f.next → pushed ≡ frames ++ h ∷ [] → IsChildBegun base g m.1 (reverse pushed) after mid new → IsStepMade base g (f ∷ reverse frames) after old new
member_made base g kind f h frames pushed after m old mid new there here begun is place next is_pushed child =
    let outer = reverse frames in
    let level = levels - suc (length outer) in
    let written = child_text level base g in
    let n = member_next g kind f outer m there here begun in
    let stack : reverse pushed ≡ h ∷ outer = ap reverse is_pushed ∙ reverse-append frames (h ∷ []) in
    let there' : kind_at g h.place ≡ Some kind = ap (kind_at g) place ∙ there in
    let rest = member_texts written (drop (suc f.next) (members_of kind)) ++ codes "}" in
    let front : frame_text written f.next (kind_at g f.place) ≡ key_text m.0 ++ (written m.1 ++ rest) =
    ap (λ (o : Option Kind). frame_text written f.next o) there ∙ ap (λ (ms : List (Key × Child)). member_texts written ms ++ codes "}") (drop_some (members_of kind) f.next m here)
    ∙ append_assoc (key_text m.0) (written m.1 ++ member_texts written (drop (suc f.next) (members_of kind))) (codes "}")
    ∙ ap (λ (t : List ℕ). key_text m.0 ++ t) (append_assoc (written m.1) (member_texts written (drop (suc f.next) (members_of kind))) (codes "}")) in
    let back : frame_text written h.next (kind_at g h.place) ≡ rest =
    ap (λ (o : Option Kind). frame_text written h.next o) there' ∙ ap (λ (i : ℕ). members_rest_text written i (members_of kind)) next in
    let pend : pending base g (reverse pushed) ≡ rest ++ pending base g outer = ap (pending base g) stack ∙ ap (λ (t : List ℕ). t ++ pending base g outer) back in
    let top : pending base g (f ∷ outer) ≡ key_text m.0 ++ (written m.1 ++ (rest ++ pending base g outer)) =
    ap (λ (t : List ℕ). t ++ pending base g outer) front ∙ append_assoc (key_text m.0) (written m.1 ++ rest) (pending base g outer) ∙ ap (λ (t : List ℕ). key_text m.0 ++ t) (append_assoc (written m.1) rest (pending base g outer)) in
    let len : length (reverse pushed) ≡ suc (length outer) = ap length stack in
    let held : child_text (levels - length (reverse pushed)) base g m.1 ≡ written m.1 = ap (λ (k : ℕ). child_text (levels - k) base g m.1) len in
    let whole : new ++ pending base g after ≡ mid ++ (written m.1 ++ (rest ++ pending base g outer)) =
    child.written ∙ ap (λ (t : List ℕ). mid ++ (t ++ pending base g (reverse pushed))) held ∙ ap (λ (t : List ℕ). mid ++ (written m.1 ++ t)) pend in
    let joined : mid ++ (written m.1 ++ (rest ++ pending base g outer)) ≡ old ++ pending base g (f ∷ outer) =
    ap (λ (t : List ℕ). t ++ (written m.1 ++ (rest ++ pending base g outer))) is ∙ append_assoc old (key_text m.0) (written m.1 ++ (rest ++ pending base g outer)) ∙ ap (λ (t : List ℕ). old ++ t) (sym top) in
    let ended : HasEnd (child_end level g) (map (λ x. x.1) (drop h.next (members_of kind))) = subst (λ (i : ℕ). HasEnd (child_end level g) (map (λ x. x.1) (drop i (members_of kind)))) (sym next) n.others in
    let fresh : AreBegun g (reverse pushed) = subst (AreBegun g) (sym stack) (record { kind = kind; there = there'; ended = ended }, begun.1) in
    record {
      written = whole ∙ joined;
      begun = child.begun fresh;
      longer = omega (arith, child.longer, ap length is, length-append old (key_text m.0), key_some m.0);
    }

-- ---- a whole value

pub first_ends : (g : List Kind) → IsGraph g → EndsSomewhere levels g (Own 1)
unfolding end_of
first_ends g h = record { from = 1; to = length g + 1; ends = h.sealed }

pub on_ok : {T E : Type 0} {P Q : Type 0} (r : Result T E) → (P → Q) → OnOk r P → OnOk r Q
on_ok (Ok x) f h = f h
on_ok (Err e) f h = tt

pub record IsMember (o : Option (Key × Child)) (child : Child) (old mid : List ℕ) : Type 0 where
  pub member : Key × Child
  pub there : o ≡ Some member
  pub held : member.1 ≡ child
  pub key : mid ≡ old ++ key_text member.0

pub some_member : (o : Option (Key × Child)) (held : Option Child) (child : Child) (old mid : List ℕ) → held ≡ Some child → MemberStep o held old mid → IsMember o child old mid
some_member None held child old mid e h = let clash = sym h.0 ∙ e in absurd cc
some_member (Some m) held child old mid e h = record { member = m; there = refl; held = some_same m.1 child (sym h.0 ∙ e); key = h.1 }

pub no_member : (o : Option (Key × Child)) (held : Option Child) (old mid : List ℕ) → held ≡ None → MemberStep o held old mid → (o ≡ None) × (mid ≡ old)
no_member None held old mid e h = (refl, h.1)
no_member (Some m) held old mid e h = let clash = sym h.0 ∙ e in absurd cc

-- a step that leaves less to be written
pub less_left : (total old new : ℕ) (a b : ℕ) → new + a ≡ total → old + b ≡ total → old < new → total - new < total - old
less_left total old new a b x y lt = omega arith

pub pushed_len : {A : Type 0} (after before : List A) (x : A) → after ≡ before ++ x ∷ [] → length after ≡ length before + 1
pushed_len after before x e = ap length e ∙ length-append before (x ∷ [])

front_of : (x y : ℕ) (xs ys : List ℕ) → x ∷ xs ≡ y ∷ ys → (x ≡ y) × (xs ≡ ys)
front_of x y xs ys e = (cc, cc)

-- what is longer and goes on alike begins with the shorter
pub longer_extends : (old new a b : List ℕ) → new ++ a ≡ old ++ b → length old ≤ length new → Extends old new
longer_extends [] new a b e le = record { added = new; is = refl }
longer_extends (x ∷ old) [] a b e le = absurd (omega arith)
longer_extends (x ∷ old) (y ∷ new) a b e le =
    let f = front_of y x (new ++ a) (old ++ b) e in
    let r = longer_extends old new a b f.1 (omega arith) in
    record { added = r.added; is = ap (λ (z : ℕ). z ∷ new) f.0 ∙ ap (λ (t : List ℕ). x ∷ t) r.is }
