use Rattle.std.proofs.Common.{◌≡◌, length, drop, [], subst, rules}
use Rattle.std.proofs.Math.Seq.{drop-length}
use Rattle.cache_c.proofs.seat_words.SeatWords.begin.Goals as goal

pub returns-clause-refused : goal.returns-clause-refused
returns-clause-refused c =
    let marks = c.args.self.now.marks in
    let all : length marks ≡ 64 = search rules in
    subst (λ n. drop n marks ≡ []) all (drop-length marks)
