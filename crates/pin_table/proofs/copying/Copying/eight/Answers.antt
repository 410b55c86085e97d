use Rattle.std.proofs.Common.{◌≡◌, ◌∙◌, ℕ, zero, suc, ◌+◌, ◌-◌, ◌<◌, List, [], ◌∷◌, slice_index, refl, ap, arith}
use Rattle.pin_table.specs.Values.{CopyView}
use Rattle.pin_table.proofs.copying.Copying.eight.Goals as goal

-- the word n of the image, read by one that has changed nothing
word_is : (was self : CopyView) (word place n : ℕ) → was ≡ self → word ≡ slice_index was.copy.content (place - was.copy.first) → place ≡ self.copy.first + n → word ≡ slice_index self.copy.content n
word_is was self word place n same read at =
    let left : place - self.copy.first ≡ n = omega arith in
    read ∙ ap (λ (v : CopyView). slice_index v.copy.content (place - v.copy.first)) same ∙ ap (λ (k : ℕ). slice_index self.copy.content k) left

eight_are : (xs : List ℕ) (i a b c d e f g h : ℕ) → a ≡ slice_index xs (i + 0) → b ≡ slice_index xs (i + 1) → c ≡ slice_index xs (i + 2) → d ≡ slice_index xs (i + 3) → e ≡ slice_index xs (i + 4) → f ≡ slice_index xs (i + 5) → g ≡ slice_index xs (i + 6) → h ≡ slice_index xs (i + 7)
    → (k : ℕ) → k < 8 → slice_index (a ∷ b ∷ c ∷ d ∷ e ∷ f ∷ g ∷ h ∷ []) k ≡ slice_index xs (i + k)
eight_are xs i a b c d e f g h pa pb pc pd pe pf pg ph zero lt = pa
eight_are xs i a b c d e f g h pa pb pc pd pe pf pg ph (suc zero) lt = pb
eight_are xs i a b c d e f g h pa pb pc pd pe pf pg ph (suc (suc zero)) lt = pc
eight_are xs i a b c d e f g h pa pb pc pd pe pf pg ph (suc (suc (suc zero))) lt = pd
eight_are xs i a b c d e f g h pa pb pc pd pe pf pg ph (suc (suc (suc (suc zero)))) lt = pe
eight_are xs i a b c d e f g h pa pb pc pd pe pf pg ph (suc (suc (suc (suc (suc zero))))) lt = pf
eight_are xs i a b c d e f g h pa pb pc pd pe pf pg ph (suc (suc (suc (suc (suc (suc zero)))))) lt = pg
eight_are xs i a b c d e f g h pa pb pc pd pe pf pg ph (suc (suc (suc (suc (suc (suc (suc zero))))))) lt = ph
eight_are xs i a b c d e f g h pa pb pc pd pe pf pg ph (suc (suc (suc (suc (suc (suc (suc (suc k)))))))) lt = absurd (omega arith)

pub returns-clause-each : goal.returns-clause-each
returns-clause-each c =
    let self = c.args.self.now in
    let same1 : c.word_at.new.self ≡ self = c.word_at.ensures.same in
    let same2 : c.word_at-2.new.self ≡ self = c.word_at-2.ensures.same ∙ same1 in
    let same3 : c.word_at-3.new.self ≡ self = c.word_at-3.ensures.same ∙ same2 in
    let same4 : c.word_at-4.new.self ≡ self = c.word_at-4.ensures.same ∙ same3 in
    let same5 : c.word_at-5.new.self ≡ self = c.word_at-5.ensures.same ∙ same4 in
    let same6 : c.word_at-6.new.self ≡ self = c.word_at-6.ensures.same ∙ same5 in
    let same7 : c.word_at-7.new.self ≡ self = c.word_at-7.ensures.same ∙ same6 in
    eight_are self.copy.content c.args.i _ _ _ _ _ _ _ _
    (word_is self self _ _ (c.args.i + 0) refl c.word_at.ensures.word (omega (arith, c.requires.first)))
    (word_is c.word_at.new.self self _ _ (c.args.i + 1) same1 c.word_at-2.ensures.word (omega (arith, c.requires.first)))
    (word_is c.word_at-2.new.self self _ _ (c.args.i + 2) same2 c.word_at-3.ensures.word (omega (arith, c.requires.first)))
    (word_is c.word_at-3.new.self self _ _ (c.args.i + 3) same3 c.word_at-4.ensures.word (omega (arith, c.requires.first)))
    (word_is c.word_at-4.new.self self _ _ (c.args.i + 4) same4 c.word_at-5.ensures.word (omega (arith, c.requires.first)))
    (word_is c.word_at-5.new.self self _ _ (c.args.i + 5) same5 c.word_at-6.ensures.word (omega (arith, c.requires.first)))
    (word_is c.word_at-6.new.self self _ _ (c.args.i + 6) same6 c.word_at-7.ensures.word (omega (arith, c.requires.first)))
    (word_is c.word_at-7.new.self self _ _ (c.args.i + 7) same7 c.word_at-8.ensures.word (omega (arith, c.requires.first)))

pub returns-clause-same : goal.returns-clause-same
returns-clause-same c = c.word_at-8.ensures.same ∙ c.word_at-7.ensures.same ∙ c.word_at-6.ensures.same ∙ c.word_at-5.ensures.same ∙ c.word_at-4.ensures.same ∙ c.word_at-3.ensures.same ∙ c.word_at-2.ensures.same ∙ c.word_at.ensures.same

pub word_at-requires-clause-from : goal.word_at-requires-clause-from
word_at-requires-clause-from c = omega (arith, c.requires.first)

pub word_at-requires-2-clause-from : goal.word_at-requires-2-clause-from
word_at-requires-2-clause-from c = omega (arith, c.requires.first, ap (λ (v : CopyView). v.copy.first) (c.word_at.ensures.same))

pub word_at-requires-3-clause-from : goal.word_at-requires-3-clause-from
word_at-requires-3-clause-from c = omega (arith, c.requires.first, ap (λ (v : CopyView). v.copy.first) (c.word_at-2.ensures.same ∙ c.word_at.ensures.same))

pub word_at-requires-4-clause-from : goal.word_at-requires-4-clause-from
word_at-requires-4-clause-from c = omega (arith, c.requires.first, ap (λ (v : CopyView). v.copy.first) (c.word_at-3.ensures.same ∙ c.word_at-2.ensures.same ∙ c.word_at.ensures.same))

pub word_at-requires-5-clause-from : goal.word_at-requires-5-clause-from
word_at-requires-5-clause-from c = omega (arith, c.requires.first, ap (λ (v : CopyView). v.copy.first) (c.word_at-4.ensures.same ∙ c.word_at-3.ensures.same ∙ c.word_at-2.ensures.same ∙ c.word_at.ensures.same))

pub word_at-requires-6-clause-from : goal.word_at-requires-6-clause-from
word_at-requires-6-clause-from c = omega (arith, c.requires.first, ap (λ (v : CopyView). v.copy.first) (c.word_at-5.ensures.same ∙ c.word_at-4.ensures.same ∙ c.word_at-3.ensures.same ∙ c.word_at-2.ensures.same ∙ c.word_at.ensures.same))

pub word_at-requires-7-clause-from : goal.word_at-requires-7-clause-from
word_at-requires-7-clause-from c = omega (arith, c.requires.first, ap (λ (v : CopyView). v.copy.first) (c.word_at-6.ensures.same ∙ c.word_at-5.ensures.same ∙ c.word_at-4.ensures.same ∙ c.word_at-3.ensures.same ∙ c.word_at-2.ensures.same ∙ c.word_at.ensures.same))

pub word_at-requires-8-clause-from : goal.word_at-requires-8-clause-from
word_at-requires-8-clause-from c = omega (arith, c.requires.first, ap (λ (v : CopyView). v.copy.first) (c.word_at-7.ensures.same ∙ c.word_at-6.ensures.same ∙ c.word_at-5.ensures.same ∙ c.word_at-4.ensures.same ∙ c.word_at-3.ensures.same ∙ c.word_at-2.ensures.same ∙ c.word_at.ensures.same))
