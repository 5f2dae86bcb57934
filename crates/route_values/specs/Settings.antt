-- The settings of a session.
use Rattle.route_values.specs.declared.settings.Settings.{Settings}
use Rattle.route_values.specs.declared.settings.Side.{Side}

-- the two ends of a session
abbrev pub side_of : Settings → Side
side_of s = record { local = s.local; local_as = s.local_as; peer_as = s.peer_as }
