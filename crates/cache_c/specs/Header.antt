-- What the header for C repeats: numbers, sizes, and the order of fields.
use Rattle.std.specs.Prelude.{◌≡◌}
use denote.Param.{layout}
use prog.Memory.{size}
use Rattle.cache_c.specs.declared.asking.Ask.{Ask}
use Rattle.cache_c.specs.declared.asking.Answer.{Answer}
use Rattle.cache_c.specs.declared.counts.ToldCounts.{ToldCounts}
use Rattle.cache_c.specs.declared.counts.Gap.{Gap}
use Rattle.cache_c.specs.declared.making.Shape.{Shape}
use Rattle.cache_c.specs.declared.rows.ToldRow.{ToldRow}
use Rattle.cache_c.specs.declared.rows.Listing.{Listing}
use Rattle.cache_c.specs.declared.shared.Found.{Found}
use Rattle.cache_c.specs.declared.shared.View.{View}
use Rattle.cache_c.specs.declared.asking.TheConstants as asking
use Rattle.cache_c.specs.declared.making.TheConstants as making
use Rattle.cache_c.specs.declared.seat_words.TheConstants as seat_words
use Rattle.cache_c.specs.declared.values.TheConstants as values
use Rattle.cache_c.specs.contracts.asking.Ask as ask_laid
use Rattle.cache_c.specs.contracts.asking.Answer as answer_laid
use Rattle.cache_c.specs.contracts.counts.ToldCounts as counts_laid
use Rattle.cache_c.specs.contracts.counts.Gap as gap_laid
use Rattle.cache_c.specs.contracts.making.Shape as shape_laid
use Rattle.cache_c.specs.contracts.rows.ToldRow as row_laid
use Rattle.cache_c.specs.contracts.rows.Listing as listing_laid
use Rattle.cache_c.specs.contracts.shared.Found as found_laid
use Rattle.cache_c.specs.contracts.shared.View as view_laid

-- the number of each request
pub record RequestNumbers : Type 0 where
  pub store : asking.STORE ≡ 0
  pub add : asking.ADD ≡ 1
  pub look : asking.LOOK ≡ 2
  pub exists : asking.EXISTS ≡ 3
  pub delete : asking.DELETE ≡ 4
  pub count : asking.COUNT ≡ 5
  pub swap : asking.SWAP ≡ 6
  pub clear : asking.CLEAR ≡ 7
  pub hold : asking.HOLD ≡ 8

-- that of each kind of value, and of each other answer
pub record AnswerNumbers : Type 0 where
  pub null : values.NULL ≡ 0
  pub bool : values.BOOL ≡ 1
  pub int : values.INT ≡ 2
  pub str : values.STR ≡ 3
  pub other : asking.OTHER ≡ 4
  pub absent : asking.ABSENT ≡ 5
  pub no : asking.NO ≡ 6
  pub yes : asking.YES ≡ 7
  pub no_number : asking.NO_NUMBER ≡ 8
  pub bad : asking.BAD ≡ 9
  pub too_long : asking.TOO_LONG ≡ 10

-- that of each result of `cache_new`, and the number of seats
pub record OtherNumbers : Type 0 where
  pub made : making.MADE ≡ 0
  pub bad_shape : making.BAD_SHAPE ≡ 1
  pub no_room : making.NO_ROOM ≡ 2
  pub seats : seat_words.SEATS ≡ 64

-- the bytes of each struct
pub record StructSizes : Type 0 where
  pub shape : size (layout shape_laid.the_row) ≡ 16
  pub ask : size (layout ask_laid.the_row) ≡ 48
  pub answer : size (layout answer_laid.the_row) ≡ 24
  pub counts : size (layout counts_laid.the_row) ≡ 56
  pub row : size (layout row_laid.the_row) ≡ 88
  pub listing : size (layout listing_laid.the_row) ≡ 16
  pub gap : size (layout gap_laid.the_row) ≡ 8
  pub view : size (layout view_laid.the_row) ≡ 12
  pub found : size (layout found_laid.the_row) ≡ 32

-- the fields of each struct, in the order in which they are in memory
pub record FieldOrders : Type 0 where
  pub shape : (s : Shape) → shape_laid.the_type.as_values s
      ≡ (s.words, (s.slots, (s.ttl, (s.segments, tt))))
  pub ask : (a : Ask) → ask_laid.the_type.as_values a
      ≡ (a.kind, (a.value, (a.ttl, (a.t, (a.number, (a.set, (a.hash, tt)))))))
  pub answer : (a : Answer) → answer_laid.the_type.as_values a
      ≡ (a.kind, (a.place, (a.number, (a.len, tt))))
  pub counts : (c : ToldCounts) → counts_laid.the_type.as_values c
      ≡ (c.hits, (c.misses, (c.inserts, (c.expunges, (c.entries, (c.row_words, (c.free_words, tt)))))))
  pub row : (r : ToldRow) → row_laid.the_type.as_values r
      ≡ (
        r.place,
        (
          r.slot,
          (
            r.key_place,
            (
              r.key_len,
              (
                r.ttl,
                (
                  r.size,
                  (
                    r.ctime,
                    (
                      r.mtime,
                      (
                        r.atime,
                        (r.dtime, (r.hits, (r.value, tt))),
                      ),
                    ),
                  ),
                ),
              ),
            ),
          ),
        ),
      )
  pub listing : (l : Listing) → listing_laid.the_type.as_values l ≡ (l.next, (l.count, tt))
  pub gap : (g : Gap) → gap_laid.the_type.as_values g ≡ (g.place, (g.size, tt))
  pub view : (v : View) → view_laid.the_type.as_values v ≡ (v.slots, (v.rows, (v.len, tt)))
  pub found : (f : Found) → found_laid.the_type.as_values f
      ≡ (f.kind, (f.place, (f.number, (f.len, (f.row, tt)))))
