-- Requests that are authorized, and some that aren't. The digest and the signatures are those that openssl computes.
use Rattle.std.specs.Prelude.{◌≡◌, ℕ, true, false, List, [], ◌∷◌, codes, None, Some}
use Rattle.ch_config.specs.Config.{built_in}
use Rattle.ch_sig.specs.declared.query.Param.{Param}
use Rattle.ch_requests.specs.Authorization.{is_authorized, is_near}
use Rattle.ch_requests.specs.declared.request.Request.{Request}
use Rattle.ch_requests.specs.declared.request.Route.TheVariants.{Events, Channels}

abbrev pub member : List ℕ → List ℕ → Param
member name value = record { name = name; value = value }

-- the members that each request has, signed at the second 1,000, without the digest of a body
abbrev pub signed : List ℕ → List Param → List Param
signed signature more =
    member (codes "auth_key") (codes "k") ∷ member (codes "auth_signature") signature
    ∷ member (codes "auth_timestamp") (codes "1000") ∷ member (codes "auth_version") (codes "1.0") ∷ more

-- one event on two channels
abbrev pub one_event : List ℕ
one_event = codes "{\"name\":\"e\",\"channels\":[\"a\",\"b\"],\"data\":\"{\\\"x\\\":1}\"}"

abbrev pub post_of : List ℕ → Request
post_of body = record {
  route = Events;
  path = codes "/apps/1/events";
  params = signed (codes "7327682f4bc5f68129ab7f2ce1026a84257cd36b8d45d7ba182b1a5c080bfd34")
      (member (codes "body_md5") (codes "b55eb3d3959bd127ca957fb15cd39e11") ∷ []);
  doubled = false;
  body = body;
}

-- a GET, which has no body and needs no digest
abbrev pub get_of : List ℕ → Request
get_of signature = record {
  route = Channels;
  path = codes "/apps/1/channels";
  params = signed signature [];
  doubled = false;
  body = [];
}

abbrev pub gotten : Request
gotten = get_of (codes "c87113e398a3d276f4503ca3d18489ea924ef3ac599d64715659975528e0c9d4")

-- the same with a name that stands twice
abbrev pub doubled : Request
doubled = record { route = gotten.route; path = gotten.path; params = gotten.params; doubled = true; body = gotten.body }

pub record AuthorizationExamples : Type 0 where
  pub post : is_authorized built_in (post_of one_event) 1000000 ≡ true
  pub ten_minutes_late : is_authorized built_in (post_of one_event) 1600000 ≡ true
  pub ten_minutes_early : is_authorized built_in (post_of one_event) 400000 ≡ true
  pub too_late : is_authorized built_in (post_of one_event) 1601000 ≡ false
  pub too_early : is_authorized built_in (post_of one_event) 399000 ≡ false
  pub other_body : is_authorized built_in (post_of (codes "{}")) 1000000 ≡ false
  pub get : is_authorized built_in gotten 1000000 ≡ true
  pub other_signature : is_authorized built_in (get_of (codes "7327682f4bc5f68129ab7f2ce1026a84257cd36b8d45d7ba182b1a5c080bfd34")) 1000000 ≡ false
  pub upper_case : is_authorized built_in (get_of (codes "C87113E398A3D276F4503CA3D18489EA924EF3AC599D64715659975528E0C9D4")) 1000000 ≡ false
  pub twice : is_authorized built_in doubled 1000000 ≡ false
  pub no_time : is_near 1000000 None ≡ false
  pub sixteen_digits : is_near 1000000 (Some (codes "0000000000001000")) ≡ false
  pub sign : is_near 1000000 (Some (codes "+1000")) ≡ false
