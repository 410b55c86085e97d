use Rattle.std.proofs.Common.{◌≡◌, ◌⊎◌, ℕ, true, false, slice_index, ◌+◌, ◌-◌, ◌<◌, ◌≤◌, ◌%◌, List, length, get_or, sym, ap, ◌∙◌, subst, refl, arith}
use Rattle.seg_words.specs.Windows.{Aside}
use Rattle.seg_words.specs.Blocks.{IsTold, MayStore}
use Rattle.sma_blocks.specs.declared.bounds.Bounds.{Bounds}
use Rattle.sma_blocks.specs.declared.sma.Sma.{Sma}
use Rattle.sma_blocks.specs.Live.{live_blocks, lives}
use Rattle.sma_blocks.specs.Ready.{IsReady}
use Rattle.sma_blocks.specs.LaidGaps.{IsLaid}
use Rattle.sma_blocks.proofs.FrontGap.{laid_total}
use Rattle.sma_blocks.proofs.FitPlaces.{Fill-even}
use Rattle.sma_blocks.proofs.AllocatorAfterTake.{may_store_seen}
use Rattle.sma_blocks.proofs.ReadyWords.{ready_chain}
use Rattle.sma_blocks.proofs.KeptBlocks.{Spread, laid_start, spread_start, laid_block, laid_after, lay_apart, next_block, last_between, keeps, told_live, in_order}
use Rattle.sma_blocks.specs.Tiles.{tiles}
use Rattle.sma_blocks.specs.Live.{kept_blocks}
use Rattle.sma_blocks.proofs.NamedBlocks.{Between}
use Rattle.sma_blocks.proofs.TileLemmas.{Fill-le}
use Rattle.sma_blocks.proofs.sma.Sma.keep.Goals as goal

from_to : (sma : Sma) (ws : List ℕ) (aside : Aside) → IsReady sma ws aside → sma.bounds.from ≤ sma.bounds.to
from_to sma ws aside ready = omega (arith, Fill-le ws sma.bounds.from (tiles ws sma.bounds.from) (length ws) ready.formatted.full, ready.end)

pub loop-i-init : goal.loop-i-init
loop-i-init g c =
    let sma = c.args.self.now in
    let ws = g.S.WordsIn.words c.args.seg.now in
    let aside = g.S.WordsIn.aside c.args.seg.now in
    let ready = c.requires.ready in
    record {
      laid = laid_start sma ws aside c.args.places.now c.clear.new.self ready c.requires.named c.clear.ensures.zeros;
      spread = spread_start sma ws aside c.args.places.now ready;
      bounds = refl;
      count = refl;
      within = omega arith;
      low = from_to sma ws aside ready;
      even = subst (λ (n : ℕ). n % 2 ≡ 0) (sym ready.end) (Fill-even ws sma.bounds.from (tiles ws sma.bounds.from) (length ws) ready.formatted.full ready.formatted.even);
      beside = record { aside = refl; rest = refl };
    }

pub load-size-requires : goal.load-size-requires
load-size-requires g c =
    let sma = c.args.self.now in
    let ws = g.S.WordsIn.words c.args.seg.now in
    let aside = g.S.WordsIn.aside c.args.seg.now in
    let places = c.args.places.now in
    let ready = c.requires.ready in
    let inv = c.loop-i.invariant in
    let short = g.met.S.WordsIn.short c.args.seg.now in
    let more = c.loop-i-test.true in
    let at : ℕ = get_or places (c.loop-i.i - 1) 0 in
    let back : c.loop-i.i ≡ (c.loop-i.i - 1) + 1 = omega arith in
    let n = next_block sma ws aside places (c.loop-i.i - 1) c.loop-i.end at ready c.requires.live c.requires.rising (omega (arith, inv.within)) refl (subst (λ (i : ℕ). Spread places (live_blocks ws sma.bounds.from) i c.loop-i.end) back inv.spread) in
    let count = laid_total inv.laid.laid in
    omega (arith, n.fits, n.wide)

pub overflow_cast-size : goal.overflow_cast-size
overflow_cast-size g c =
    let sma = c.args.self.now in
    let ws = g.S.WordsIn.words c.args.seg.now in
    let aside = g.S.WordsIn.aside c.args.seg.now in
    let places = c.args.places.now in
    let ready = c.requires.ready in
    let inv = c.loop-i.invariant in
    let short = g.met.S.WordsIn.short c.args.seg.now in
    let more = c.loop-i-test.true in
    let at : ℕ = get_or places (c.loop-i.i - 1) 0 in
    let back : c.loop-i.i ≡ (c.loop-i.i - 1) + 1 = omega arith in
    let n = next_block sma ws aside places (c.loop-i.i - 1) c.loop-i.end at ready c.requires.live c.requires.rising (omega (arith, inv.within)) refl (subst (λ (i : ℕ). Spread places (live_blocks ws sma.bounds.from) i c.loop-i.end) back inv.spread) in
    let count = laid_total inv.laid.laid in
    let size : c.load-size.result ≡ n.size = c.load-size.ensures.word (subst (λ (a : Aside). IsTold a.windows at) (sym inv.beside.aside) (told_live ready at n.size n.live)) ∙ (inv.laid.before at (omega (arith, n.fits, n.wide)) ∙ n.word) in
    omega (arith, n.fits, inv.laid.count)

pub overflow_add-at : goal.overflow_add-at
overflow_add-at g c =
    let sma = c.args.self.now in
    let ws = g.S.WordsIn.words c.args.seg.now in
    let aside = g.S.WordsIn.aside c.args.seg.now in
    let places = c.args.places.now in
    let ready = c.requires.ready in
    let inv = c.loop-i.invariant in
    let short = g.met.S.WordsIn.short c.args.seg.now in
    let more = c.loop-i-test.true in
    let at : ℕ = get_or places (c.loop-i.i - 1) 0 in
    let back : c.loop-i.i ≡ (c.loop-i.i - 1) + 1 = omega arith in
    let n = next_block sma ws aside places (c.loop-i.i - 1) c.loop-i.end at ready c.requires.live c.requires.rising (omega (arith, inv.within)) refl (subst (λ (i : ℕ). Spread places (live_blocks ws sma.bounds.from) i c.loop-i.end) back inv.spread) in
    let count = laid_total inv.laid.laid in
    let size : c.load-size.result ≡ n.size = c.load-size.ensures.word (subst (λ (a : Aside). IsTold a.windows at) (sym inv.beside.aside) (told_live ready at n.size n.live)) ∙ (inv.laid.before at (omega (arith, n.fits, n.wide)) ∙ n.word) in
    omega (arith, n.fits, inv.laid.count)

pub lay-requires : goal.lay-requires
lay-requires g c =
    let sma = c.args.self.now in
    let ws = g.S.WordsIn.words c.args.seg.now in
    let aside = g.S.WordsIn.aside c.args.seg.now in
    let places = c.args.places.now in
    let ready = c.requires.ready in
    let inv = c.loop-i.invariant in
    let short = g.met.S.WordsIn.short c.args.seg.now in
    let more = c.loop-i-test.true in
    let at : ℕ = get_or places (c.loop-i.i - 1) 0 in
    let back : c.loop-i.i ≡ (c.loop-i.i - 1) + 1 = omega arith in
    let n = next_block sma ws aside places (c.loop-i.i - 1) c.loop-i.end at ready c.requires.live c.requires.rising (omega (arith, inv.within)) refl (subst (λ (i : ℕ). Spread places (live_blocks ws sma.bounds.from) i c.loop-i.end) back inv.spread) in
    let count = laid_total inv.laid.laid in
    let size : c.load-size.result ≡ n.size = c.load-size.ensures.word (subst (λ (a : Aside). IsTold a.windows at) (sym inv.beside.aside) (told_live ready at n.size n.live)) ∙ (inv.laid.before at (omega (arith, n.fits, n.wide)) ∙ n.word) in
    let words = c.load-size.ensures.words in
    let same : at + c.load-size.result ≡ at + n.size = ap (λ (x : ℕ). at + x) size in
    let room = ready.indexed.room in
    let even : (at + c.load-size.result) % 2 ≡ 0 = omega (arith, n.even_at, n.even_size) in
    record {
      laid = subst (λ (x : ℕ). IsLaid x (g.S.WordsIn.words c.load-size.new.self) c.loop-i.end c.loop-i.self.sizes c.loop-i.self.head c.loop-i.self.free true) (sym (ap (λ (b : Bounds). b.piece) inv.bounds))
          (subst (λ (xs : List ℕ). IsLaid sma.bounds.piece xs c.loop-i.end c.loop-i.self.sizes c.loop-i.self.head c.loop-i.self.free true) (sym words) inv.laid.laid);
      even = (even, inv.even, omega (arith, ready.even, (ap (λ (b : Bounds). b.piece) inv.bounds)));
      apart = λ i low high. may_store_seen (g.S.WordsIn.words c.loop-i.seg) (g.S.WordsIn.words c.load-size.new.self) aside (g.S.WordsIn.aside c.load-size.new.self) i words (c.load-size.ensures.aside ∙ inv.beside.aside) (lay_apart inv.laid (at + n.size) n.between i (omega arith) high);
      index = omega (arith, ap length words, inv.count, c.clear.ensures.count, inv.laid.count);
      short = omega (arith, ap length words, inv.laid.count, ready.short, ready.end);
      order = omega (arith, n.fits);
    }

pub loop-i-preserved : goal.loop-i-preserved
loop-i-preserved g c =
    let sma = c.args.self.now in
    let ws = g.S.WordsIn.words c.args.seg.now in
    let aside = g.S.WordsIn.aside c.args.seg.now in
    let places = c.args.places.now in
    let ready = c.requires.ready in
    let inv = c.loop-i.invariant in
    let short = g.met.S.WordsIn.short c.args.seg.now in
    let more = c.loop-i-test.true in
    let at : ℕ = get_or places (c.loop-i.i - 1) 0 in
    let back : c.loop-i.i ≡ (c.loop-i.i - 1) + 1 = omega arith in
    let n = next_block sma ws aside places (c.loop-i.i - 1) c.loop-i.end at ready c.requires.live c.requires.rising (omega (arith, inv.within)) refl (subst (λ (i : ℕ). Spread places (live_blocks ws sma.bounds.from) i c.loop-i.end) back inv.spread) in
    let count = laid_total inv.laid.laid in
    let size : c.load-size.result ≡ n.size = c.load-size.ensures.word (subst (λ (a : Aside). IsTold a.windows at) (sym inv.beside.aside) (told_live ready at n.size n.live)) ∙ (inv.laid.before at (omega (arith, n.fits, n.wide)) ∙ n.word) in
    let words = c.load-size.ensures.words in
    let first = at + c.load-size.result in
    let out = subst (λ (x : ℕ). Between (kept_blocks places (live_blocks ws sma.bounds.from)) x c.loop-i.end) (sym (ap (λ (x : ℕ). at + x) size)) n.between in
    let laid = subst (λ (x : ℕ). IsLaid x (g.S.WordsIn.words c.lay.new.seg) first c.lay.new.self.sizes c.lay.new.self.head c.lay.new.self.free false) (ap (λ (b : Bounds). b.piece) inv.bounds) c.lay.ensures.laid in
    let gap = laid_after inv.laid first (g.S.WordsIn.words c.lay.new.seg) c.lay.new.self.sizes c.lay.new.self.head c.lay.new.self.free (omega (arith, n.fits)) laid
    (c.lay.ensures.lives ∙ ap (λ xs. lives (tiles xs c.loop-i.end)) words) (λ i o. c.lay.ensures.same i o ∙ ap (λ xs. slice_index xs i) words) (c.lay.ensures.length ∙ ap length words) out (in_order ready) in
    record {
      laid = laid_block gap at n.size (ap (λ (x : ℕ). at + x) size) (in_order ready) n.live n.kept n.even_size n.whole;
      spread = n.spread;
      bounds = c.lay.ensures.bounds ∙ inv.bounds;
      count = c.lay.ensures.count ∙ inv.count;
      within = omega (arith, inv.within);
      low = n.low;
      even = n.even_at;
      beside = record { aside = c.lay.ensures.beside.aside ∙ (c.load-size.ensures.aside ∙ inv.beside.aside); rest = c.lay.ensures.beside.rest ∙ (c.load-size.ensures.rest ∙ inv.beside.rest) };
    }

pub lay-requires-2 : goal.lay-requires-2
lay-requires-2 g c =
    let sma = c.args.self.now in
    let ws = g.S.WordsIn.words c.args.seg.now in
    let aside = g.S.WordsIn.aside c.args.seg.now in
    let places = c.args.places.now in
    let ready = c.requires.ready in
    let inv = c.loop-i.invariant in
    let short = g.met.S.WordsIn.short c.args.seg.now in
    let none : c.loop-i.i ≡ 0 = omega (arith, c.loop-i-test.false) in
    let out = last_between sma ws places c.loop-i.i c.loop-i.end none inv.spread in
    let room = ready.indexed.room in
    let from : c.loop-i.self.bounds.from ≡ sma.bounds.from = ap (λ (b : Bounds). b.from) inv.bounds in
    let even : c.loop-i.self.bounds.from % 2 ≡ 0 = subst (λ (x : ℕ). x % 2 ≡ 0) (sym from) ready.formatted.even in
    record {
      laid = subst (λ (x : ℕ). IsLaid x (g.S.WordsIn.words c.loop-i.seg) c.loop-i.end c.loop-i.self.sizes c.loop-i.self.head c.loop-i.self.free true) (sym (ap (λ (b : Bounds). b.piece) inv.bounds)) inv.laid.laid;
      even = (even, inv.even, omega (arith, ready.even, (ap (λ (b : Bounds). b.piece) inv.bounds)));
      apart = λ i low high. subst (λ (a : Aside). MayStore (g.S.WordsIn.words c.loop-i.seg) a.windows i) (sym inv.beside.aside) (lay_apart inv.laid sma.bounds.from out i (omega arith) high);
      index = omega (arith, inv.count, c.clear.ensures.count, inv.laid.count);
      short = omega (arith, inv.laid.count, ready.short, ready.end);
      order = omega (arith, inv.low);
    }

pub returns : goal.returns
returns g c =
    let sma = c.args.self.now in
    let ws = g.S.WordsIn.words c.args.seg.now in
    let aside = g.S.WordsIn.aside c.args.seg.now in
    let places = c.args.places.now in
    let ready = c.requires.ready in
    let inv = c.loop-i.invariant in
    let short = g.met.S.WordsIn.short c.args.seg.now in
    let none : c.loop-i.i ≡ 0 = omega (arith, c.loop-i-test.false) in
    let out = last_between sma ws places c.loop-i.i c.loop-i.end none inv.spread in
    let from : c.loop-i.self.bounds.from ≡ sma.bounds.from = ap (λ (b : Bounds). b.from) inv.bounds in
    let new = g.S.WordsIn.words c.lay-2.new.seg in
    let s' = c.lay-2.new.self in
    let laid : IsLaid sma.bounds.piece new sma.bounds.from s'.sizes s'.head s'.free false = subst (λ (x : ℕ). IsLaid sma.bounds.piece new x s'.sizes s'.head s'.free false) from (subst (λ (x : ℕ). IsLaid x new c.loop-i.self.bounds.from s'.sizes s'.head s'.free false) (ap (λ (b : Bounds). b.piece) inv.bounds) c.lay-2.ensures.laid) in
    let gap = laid_after inv.laid sma.bounds.from new s'.sizes s'.head s'.free inv.low laid
    (subst (λ (x : ℕ). lives (tiles new x) ≡ lives (tiles (g.S.WordsIn.words c.loop-i.seg) c.loop-i.end)) from c.lay-2.ensures.lives)
    (subst (λ (x : ℕ). (i : ℕ) → (i < x) ⊎ (c.loop-i.end ≤ i) → slice_index new i ≡ slice_index (g.S.WordsIn.words c.loop-i.seg) i) from c.lay-2.ensures.same) c.lay-2.ensures.length out (in_order ready) in
    let count : length s'.sizes ≡ length sma.sizes = c.lay-2.ensures.count ∙ (inv.count ∙ c.clear.ensures.count) in
    let done = keeps sma s' ws new aside places ready (c.lay-2.ensures.bounds ∙ inv.bounds) count gap in
    let beside = c.lay-2.ensures.beside.aside ∙ inv.beside.aside in
    record {
      left = done.left;
      others = done.others;
      bounds = c.lay-2.ensures.bounds ∙ inv.bounds;
      ready = subst (λ (a : Aside). IsReady s' new a) (sym beside) done.ready;
      chain = ready_chain done.ready;
      beside = record { aside = beside; rest = c.lay-2.ensures.beside.rest ∙ inv.beside.rest };
    }
