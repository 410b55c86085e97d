use Rattle.std.proofs.Common.{◌≡◌, ◌∙◌}
use Rattle.seg_words.specs.Windows.{Aside}
use Rattle.apcu_model.specs.Infos.{info_of_row}
use Rattle.cache_info.proofs.EntryHeads.{heads_alike}
use Rattle.cache_info.proofs.entry.listed_at.Goals as goal

pub copy_key-requires-clause-long : goal.copy_key-requires-clause-long
copy_key-requires-clause-long g c = λ row is. (c.head-head.ensures.head row is).key_len

pub returns-clause-row : goal.returns-clause-row
returns-clause-row g c = λ row is.
    let words = g.S.WordsIn.words c.args.seg.now in
    let aside = g.S.WordsIn.aside c.args.seg.now in
    let head = c.head-head.ensures.head row is in
    let key : c.from_vec.result ≡ row.key = c.from_vec.ensures ∙ c.in_ok-key.ensures.key row is in
    let info : c.info.result ≡ info_of_row row = c.info.ensures ∙ heads_alike words aside.windows c.head-head.result row head in
    λ i. record { key = key i; info = info i }
