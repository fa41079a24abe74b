-- What is told of a presence channel's members (Pusher Channels protocol, "Presence channel events").
use Rattle.std.specs.Prelude.{ℕ, List, ◌++◌, codes, length}
use Rattle.std.specs.List.{join_by}
use Rattle.std.specs.Fmt.{decimal}
use Rattle.ch_base.specs.declared.channel.Member.{Member}
use Rattle.ch_base.specs.Escape.{quoted}

-- a member's user id
abbrev pub id_of : Member → List ℕ
id_of member = quoted member.user_id

-- a member's user id with its info, which is a JSON text
abbrev pub info_of : Member → List ℕ
info_of member = quoted member.user_id ++ codes ":" ++ member.info

-- all members: their ids, their infos by id, and how many they are
abbrev pub roster : List Member → List ℕ
roster rows =
    codes "{\"presence\":{\"ids\":[" ++ join_by id_of (codes ",") rows
    ++ codes "],\"hash\":{" ++ join_by info_of (codes ",") rows
    ++ codes "},\"count\":" ++ decimal (length rows) ++ codes "}}"

-- a member that is new
abbrev pub member_added_data : Member → List ℕ
member_added_data member = codes "{\"user_id\":" ++ quoted member.user_id ++ codes ",\"user_info\":" ++ member.info ++ codes "}"

-- a member that is gone, by its user id
abbrev pub member_removed_data : List ℕ → List ℕ
member_removed_data user_id = codes "{\"user_id\":" ++ quoted user_id ++ codes "}"
