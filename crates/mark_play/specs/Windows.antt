-- The window of a worker after its last event.
use Rattle.std.specs.Prelude.{ℕ, if◌then◌else◌, List, Option, Some, None}
use Rattle.apcu_model.specs.declared.request.Request.{Request}
use Rattle.apcu_model.specs.declared.request.Request.TheVariants as requests
use Rattle.apcu_model.specs.Cache.{Row, Cache}
use Rattle.apcu_model.specs.Expiry.{live_row}
use Rattle.apcu_model.specs.History.{is_scalar}
use Rattle.mark_play.specs.declared.answering.Window.{Window}

-- the window that a look-up of the key opens on the row that it finds
abbrev pub window_on : List ℕ → Option Row → Option Window
window_on key None = None
window_on key (Some row) =
    if is_scalar row.graph then None else Some (record { key = key; number = row.number })

-- the window that a request opens at the moment t
abbrev pub window_by : ℕ → Request → Cache → Option Window
window_by t (requests.Fetch key) c = window_on key (live_row key t c)
window_by t (requests.Store key value ttl exclusive) c = None
window_by t (requests.Exists key) c = None
window_by t (requests.Delete key) c = None
window_by t (requests.Inc key step ttl) c = None
window_by t (requests.Cas key expect set) c = None
window_by t (requests.Entry g) c = None
window_by t requests.Clear c = None
window_by t (requests.KeyInfo key) c = None
window_by t (requests.CacheInfo limited) c = None
window_by t (requests.SmaInfo limited) c = None
window_by t (requests.Chunk wanted from size list fields) c = None
window_by t (requests.ChunkDelete wanted from size) c = None
window_by t (requests.Totals wanted list) c = None
window_by t requests.Retire c = None
