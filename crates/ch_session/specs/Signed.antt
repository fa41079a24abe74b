-- What authorizes a socket whose id is given as a text.
use Rattle.std.specs.Prelude.{ℕ, List, Option}
use Rattle.ch_config.specs.declared.config.Config.{Config}
use Rattle.ch_sig.specs.Hmac.{hmac_hex}
use Rattle.ch_sig.specs.SignedText.{socket_text, user_text, authorization_text}

-- to subscribe to the channel
abbrev pub signed_for_channel : Config → List ℕ → List ℕ → Option (List ℕ) → List ℕ
signed_for_channel config id channel channel_data =
    authorization_text config.key (hmac_hex config.secret (socket_text id channel channel_data))

-- to sign in with these data
abbrev pub signed_for_user : Config → List ℕ → List ℕ → List ℕ
signed_for_user config id user_data = authorization_text config.key (hmac_hex config.secret (user_text id user_data))
