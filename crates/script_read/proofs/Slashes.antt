-- The place of a pattern's last `/`.
use Rattle.std.proofs.Common.{◌≡◌, ℕ, ◌-◌, Bool, true, false, cond, List, [], ◌∷◌, ◌++◌, length, take, drop, Option, Some, None, refl, sym, ap, ap₂, subst, ◌∙◌, take-append-drop, length-append, arith}
use Rattle.std.specs.Prelude.{◌==◌}
use Rattle.std.specs.Option.{option_and_then, option_map}
use Rattle.std.specs.Str.{bytes_eq, is_utf8, IsUtf8}
use Rattle.std.proofs.lemmas.Bool.{eqb-true}
use Rattle.std.proofs.lemmas.Slice.Eq.{bytes_eq-Decides}
use Rattle.std.proofs.lemmas.Str.{IsUtf8-from_is_utf8, is_utf8-from_IsUtf8}
use Rattle.std.proofs.Math.Seq.{drop-append_seam}
use Rattle.apcu_model.specs.declared.searching.Pattern.{Pattern}
use Rattle.script_read.specs.Arguments.{or_else, by_last_slash, pattern_ended, slashed, pattern}
use Rattle.script_read.proofs.ResultBinds.{some_is}

-- ---- the last `/`

abbrev Cut : Type 0
Cut = List ℕ × List ℕ

abbrev longer : ℕ → Cut → Cut
longer b cut = (b ∷ cut.0, cut.1)

-- one byte more in front
abbrev with_byte : ℕ → List ℕ → Option Cut → Option Cut
with_byte b bytes found = or_else (option_map (longer b) found) (cond (b == 47) (Some ([], bytes)) None)

last_slash : (front end : List ℕ) → by_last_slash end ≡ None → by_last_slash (front ++ 47 ∷ end) ≡ Some (front, end)
last_slash [] end none = ap (with_byte 47 end) none
last_slash (b ∷ front) end none = ap (with_byte b (front ++ 47 ∷ end)) (last_slash front end none)

slash_there : (bytes : List ℕ) (cut : Cut) → by_last_slash bytes ≡ Some cut → bytes ≡ cut.0 ++ 47 ∷ cut.1
slash_there [] cut e = absurd cc
slash_there (b ∷ bytes) cut e = by_found (by_last_slash bytes) (slash_there bytes) e
  where
    by_test : (t : Bool) → (t ≡ true → b ≡ 47) → cond t (Some ([], bytes)) None ≡ Some cut → b ∷ bytes ≡ cut.0 ++ 47 ∷ cut.1
    by_test true same e = subst (λ (c : Cut). b ∷ bytes ≡ c.0 ++ 47 ∷ c.1) (some_is ([], bytes) cut e) (ap (λ (x : ℕ). x ∷ bytes) (same refl))
    by_test false same e = absurd cc

    by_found : (found : Option Cut) → ((c : Cut) → found ≡ Some c → bytes ≡ c.0 ++ 47 ∷ c.1) → with_byte b bytes found ≡ Some cut → b ∷ bytes ≡ cut.0 ++ 47 ∷ cut.1
    by_found (Some c) there e = subst (λ (d : Cut). b ∷ bytes ≡ d.0 ++ 47 ∷ d.1) (some_is (longer b c) cut e) (ap (λ (l : List ℕ). b ∷ l) (there c refl))
    by_found None there e = by_test (b == 47) (eqb-true b 47) e

-- ---- ends

end_is : (bytes end : List ℕ) → bytes_eq (drop (length bytes - length end) bytes) end ≡ true → bytes ≡ take (length bytes - length end) bytes ++ end
end_is bytes end e =
    let n = length bytes - length end in
    sym (take-append-drop n bytes) ∙ ap (λ (l : List ℕ). take n bytes ++ l) ((bytes_eq-Decides (drop n bytes) end).0 e)

ends_so : (bytes front end : List ℕ) → bytes ≡ front ++ end → bytes_eq (drop (length bytes - length end) bytes) end ≡ true
ends_so bytes front end e =
    let n : length bytes - length end ≡ length front = omega (arith, ap length e, length-append front end) in
    (bytes_eq-Decides (drop (length bytes - length end) bytes) end).1 (ap₂ (λ (k : ℕ) (l : List ℕ). drop k l) n e ∙ drop-append_seam front end)

-- ---- what is between

behind_first : (text : List ℕ) → bytes_eq (take 1 text) (47 ∷ []) ≡ true → slashed text ≡ option_and_then pattern_ended (by_last_slash (drop 1 text))
behind_first [] e = absurd cc
behind_first (b ∷ bytes) e =
    let first : b ∷ [] ≡ 47 ∷ [] = (bytes_eq-Decides (b ∷ []) (47 ∷ [])).0 e in
    let same : b ≡ 47 = cc (first) in
    ap (λ (x : ℕ). slashed (x ∷ bytes)) same

-- the text is the first `/` and these bytes
abbrev pub IsBehind : List ℕ → List ℕ → Type 0
IsBehind text behind = (bytes_eq (take 1 text) (47 ∷ []) ≡ true) × (behind ≡ drop 1 text)

found_between : (text behind inside end : List ℕ) (p : Pattern) → IsBehind text behind → bytes_eq (drop (length behind - length (47 ∷ end)) behind) (47 ∷ end) ≡ true → inside ≡ take (length behind - length (47 ∷ end)) behind
    → by_last_slash end ≡ None → pattern_ended (inside, end) ≡ Some p → Some p ≡ slashed text
found_between text behind inside end p b ends is none meant =
    let whole : behind ≡ inside ++ 47 ∷ end = end_is behind (47 ∷ end) ends ∙ ap (λ (l : List ℕ). l ++ 47 ∷ end) (sym is) in
    sym (behind_first text b.0
    ∙ (ap (λ (l : List ℕ). option_and_then pattern_ended (by_last_slash l)) (sym b.1 ∙ whole)
    ∙ (ap (option_and_then pattern_ended) (last_slash inside end none) ∙ meant)))

pub plain_pattern : (text behind inside : List ℕ) → IsBehind text behind → bytes_eq (drop (length behind - 1) behind) (47 ∷ []) ≡ true → inside ≡ take (length behind - 1) behind → Some (record { text = inside; fold = false }) ≡ slashed text
plain_pattern text behind inside b ends is = found_between text behind inside [] (record { text = inside; fold = false }) b ends is refl refl

pub folding_pattern : (text behind inside : List ℕ) → IsBehind text behind → bytes_eq (drop (length behind - 2) behind) (47 ∷ 105 ∷ []) ≡ true → inside ≡ take (length behind - 2) behind → Some (record { text = inside; fold = true }) ≡ slashed text
folding_pattern text behind inside b ends is = found_between text behind inside (105 ∷ []) (record { text = inside; fold = true }) b ends is refl refl

no_end : (cut : Cut) → (cut.1 ≡ [] → ⊥) → (cut.1 ≡ 105 ∷ [] → ⊥) → pattern_ended cut ≡ None
no_end cut plain folding = by_plain (bytes_eq cut.1 []) (bytes_eq-Decides cut.1 []).0 (bytes_eq cut.1 (105 ∷ [])) (bytes_eq-Decides cut.1 (105 ∷ [])).0
  where
    by_plain : (a : Bool) → (a ≡ true → cut.1 ≡ []) → (b : Bool) → (b ≡ true → cut.1 ≡ 105 ∷ []) → cond {A = Option Pattern} a (Some (record { text = cut.0; fold = false })) (cond {A = Option Pattern} b (Some (record { text = cut.0; fold = true })) None) ≡ None
    by_plain true is b other = absurd (plain (is refl))
    by_plain false is true other = absurd (folding (other refl))
    by_plain false is false other = refl

pub no_pattern : (text behind : List ℕ) → IsBehind text behind → bytes_eq (drop (length behind - 1) behind) (47 ∷ []) ≡ false → bytes_eq (drop (length behind - 2) behind) (47 ∷ 105 ∷ []) ≡ false → slashed text ≡ None
no_pattern text behind b plain folding =
    behind_first text b.0 ∙ (ap (λ (l : List ℕ). option_and_then pattern_ended (by_last_slash l)) (sym b.1) ∙ by_found (by_last_slash behind) (slash_there behind))
  where
    by_found : (found : Option Cut) → ((c : Cut) → found ≡ Some c → behind ≡ c.0 ++ 47 ∷ c.1) → option_and_then pattern_ended found ≡ None
    by_found None there = refl
    by_found (Some cut) there =
        let whole : behind ≡ cut.0 ++ 47 ∷ cut.1 = there cut refl in
        no_end cut
        (λ e. let h = ends_so behind cut.0 (47 ∷ []) (whole ∙ ap (λ (l : List ℕ). cut.0 ++ 47 ∷ l) e) in let clash = sym plain ∙ h in cc)
        (λ e. let h = ends_so behind cut.0 (47 ∷ 105 ∷ []) (whole ∙ ap (λ (l : List ℕ). cut.0 ++ 47 ∷ l) e) in let clash = sym folding ∙ h in cc)

-- ---- UTF-8

abbrev pub made_of : List ℕ → Bool → Option Pattern
made_of t f = Some (record { text = t; fold = f })

pub not_utf8 : (text : List ℕ) → (IsUtf8 text → ⊥) → None ≡ pattern text
not_utf8 text other = by_test (is_utf8 text) (IsUtf8-from_is_utf8 text)
  where
    by_test : (b : Bool) → (b ≡ true → IsUtf8 text) → None ≡ cond b (slashed text) None
    by_test true is = absurd (other (is refl))
    by_test false is = refl

pub in_utf8 : (text : List ℕ) (found : Option Pattern) → IsUtf8 text → found ≡ slashed text → found ≡ pattern text
in_utf8 text found utf8 is = is ∙ sym (ap (λ (b : Bool). cond b (slashed text) None) (is_utf8-from_IsUtf8 text utf8))
