-- Promise. Totals as they are told to C. Own.
use Rattle.record_values.specs.declared.file_totals.Totals.{Totals}
use Rattle.riegeli_c.specs.declared.reading.FileTotals.{FileTotals}

-- the totals that are told
abbrev pub totals_told : FileTotals → Totals
totals_told told = record { chunks = told.chunks; records = told.records; bytes = told.bytes; unread = told.unread }
