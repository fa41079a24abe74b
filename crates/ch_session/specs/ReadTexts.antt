-- A text that was read.
use Rattle.ch_protocol.specs.Readings.{Reading}
use Rattle.ch_session.specs.declared.reading.Read.{Read}

-- the reading that it is
abbrev pub reading_of : Read → Reading
reading_of r = record { verdict = r.verdict; member = r.member; user = r.user }
